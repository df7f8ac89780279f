-- Why a basis up to the limit decides a test word: what is near it is found by division, and a basis without a row with z means that nothing is.
-- For every member, any T and any places that count.
--
--   limit_of T k          2(o + M) + 1, where T points have a locator up to the order o = orderOf w T: the largest key that decoding needs
--   nodes_of word         the nodes of a word: each place that counts, with the word's symbol
--   near-exists          where a codeword is within T of a word, some Q through its nodes has its lead up to the limit, and with z (an odd key)
--   near-spent           where every odd class is spent, at some nodes of the word only, no codeword is within T of it
--   near-lead            a row through the word whose weight, half its lead, and T are less than the places that count has its lead with z where a
--                        codeword is within T of the word,
--   near-divides         and gives that codeword's message by division
use Rattle.std.specs.Prelude.{Bool, ◌≡◌, refl, ℕ, ◌+◌, ◌*◌, ◌/◌, ◌%◌, ◌<◌, ◌≤◌, T, length, get_or}
use Rattle.std.proofs.Common.{sym, ◌∙◌, arith}
use Rattle.std.proofs.Math.Path.{ap, subst, subst₂}
use mathlib.Core.List.{List, Memᴰ}
use Rattle.std.proofs.Math.Nat.{dvd-mul_right, mod-mod_of_dvd}
use Rattle.lists.specs.Answers.{Found}
use Rattle.lists.specs.Count.{count}
use Rattle.lists.specs.Listed.{listed, listed-length, listed_at}
use Rattle.algebra.specs.Coefficients.{Lead}
use Rattle.algebra.specs.Subspace.{common-fewer}
use Rattle.algebra.specs.Koetter.{Basis}
use Rattle.algebra.specs.Least.{class-lead}
use Rattle.algebra.specs.Distance as Distance
use Rattle.galois.specs.BinaryField.{GF, K}
use Rattle.hermitian.specs.Value.{Curve, Val}
use Rattle.hermitian.specs.Points.{Points}
use Rattle.hermitian.specs.Decoding.{Near}
use Rattle.hermitian.specs.Division.{quotient}
use Rattle.hermitian.specs.Interpolant.{without_z, with_z}
use Rattle.hermitian.specs.Repair.{limit, x_at, y_at, z_at}
use Rattle.hermitian.proofs.Repair.{near-held, decided-with_z, decided-repairs}
use Rattle.family.specs.Member.{Member, symbols, places, px, py}
use Rattle.family.specs.Nodes.{Node, node, sample_at, ThroughNodes}
use Rattle.near.specs.Near.{m_of, near_to}
use Rattle.near.specs.Reach.{Workable}
use Rattle.near.specs.Codeword.{symbols_of, message_function, message_from, message_from-function, place_at, counted-points, near-function}

unfoldable pub node_of : List ℕ → ℕ → Node
node_of word p = node p (get_or word p 0)

module _ (𝓜 : Member) where
  unfoldable pub limit_of : ℕ → ℕ → ℕ
  limit_of reach k = limit 𝓜.w (m_of 𝓜 k) reach

  unfoldable pub nodes_of : (ℕ → Bool) → List ℕ → List Node
  nodes_of counts word = listed (count (places 𝓜) counts) (λ i. node_of word (place_at 𝓜 counts (places 𝓜) i))

module _ (𝓜 : Member) (counts : ℕ → Bool) (reach : ℕ) where
  open 𝓜 use {gf, w, wide}

  module _ (word : List ℕ) where
    size : length (nodes_of 𝓜 counts word) ≡ count (places 𝓜) counts
    unfolding nodes_of
    size = listed-length (count (places 𝓜) counts) _

    -- the i-th place that counts
    here : ℕ → ℕ
    here i = place_at 𝓜 counts (places 𝓜) i

    d : Node
    d = node 0 0

    there : (i : ℕ) → i < count (places 𝓜) counts → get_or (nodes_of 𝓜 counts word) i d ≡ node (here i) (get_or word (here i) 0)
    unfolding nodes_of node_of here
    there i h = listed_at (count (places 𝓜) counts) i (λ i. node_of word (place_at 𝓜 counts (places 𝓜) i)) d h

    module _ {k : ℕ} (rate : Workable 𝓜 k) where
      X : ℕ → GF gf
      X = x_at (K gf) w (m_of 𝓜 k) (sample_at 𝓜) d (nodes_of 𝓜 counts word)

      Y : ℕ → GF gf
      Y = y_at (K gf) w (m_of 𝓜 k) (sample_at 𝓜) d (nodes_of 𝓜 counts word)

      Z : ℕ → GF gf
      Z = z_at (K gf) w (m_of 𝓜 k) (sample_at 𝓜) d (nodes_of 𝓜 counts word)

      counted : Points (K gf) w (count (places 𝓜) counts) (λ i. px 𝓜 (here i)) (λ i. py 𝓜 (here i))
      unfolding here
      counted = counted-points 𝓜 counts

      x-here : (i : ℕ) → i < count (places 𝓜) counts → X i ≡ px 𝓜 (here i)
      unfolding X
      x-here i h = ap (λ n. (sample_at 𝓜 n).x) (there i h)

      y-here : (i : ℕ) → i < count (places 𝓜) counts → Y i ≡ py 𝓜 (here i)
      unfolding Y
      y-here i h = ap (λ n. (sample_at 𝓜 n).y) (there i h)

      z-here : (i : ℕ) → i < count (places 𝓜) counts → Z i ≡ symbols_of 𝓜 word (here i)
      unfolding Z symbols_of
      z-here i h = ap (λ n. (sample_at 𝓜 n).z) (there i h)

      word-points : Points (K gf) w (length (nodes_of 𝓜 counts word)) X Y
      word-points =
          subst (λ n. Points (K gf) w n X Y) (sym size)
          (record {
            on = λ i h. subst₂ (λ x y. Curve (K gf) w x y) (sym (x-here i h)) (sym (y-here i h)) (counted.on i h);
            distinct = λ i j l h ex ey.
                let hi : i < count (places 𝓜) counts = omega arith in
                counted.distinct i j l h (sym (x-here i hi) ∙ ex ∙ x-here j h) (sym (y-here i hi) ∙ ey ∙ y-here j h);
          })

      word-near : (m : List ℕ) → T (near_to 𝓜 counts reach k word m) → Near (K gf) w (m_of 𝓜 k) reach (length (nodes_of 𝓜 counts word)) X Y Z (message_function 𝓜 k m)
      unfolding here
      word-near m t =
          let N = near-function 𝓜 counts reach rate word m t in
          subst (λ n. Near (K gf) w (m_of 𝓜 k) reach n X Y Z (message_function 𝓜 k m)) (sym size)
          (record {
            fn = N.fn;
            order = N.order;
            value = N.value;
            val = λ i h. subst₂ (λ x y. Val (K gf) w x y (message_function 𝓜 k m) (N.value i)) (sym (x-here i h)) (sym (y-here i h)) (N.val i h);
            few =
                omega
                (arith, N.few, Distance.differing-ext (K gf) (count (places 𝓜) counts) N.value Z N.value (λ i. symbols_of 𝓜 word (here i)) (λ i h. refl) z-here);
          })

      pub near-exists : (m : List ℕ) → T (near_to 𝓜 counts reach k word m)
          → (c : ℕ → GF gf) × (l : ℕ) × ThroughNodes 𝓜 (m_of 𝓜 k) (nodes_of 𝓜 counts word) c × Lead (K gf) c l × (l ≤ limit_of 𝓜 reach k) × (l % 2 ≡ 1)
      unfolding limit_of X Y Z d
      near-exists m t = near-held (K gf) w (m_of 𝓜 k) (sample_at 𝓜) d (nodes_of 𝓜 counts word) wide word-points (word-near m t)

      -- at some nodes of the word only, since what vanishes at all of them vanishes there
      pub near-spent : {classes : ℕ} → classes ≡ 2 * w → {G : ℕ → ℕ → GF gf} {l : ℕ → ℕ} (ns : List Node) → ((n : Node) → Memᴰ n ns → Memᴰ n (nodes_of 𝓜 counts word))
          → Basis (K gf) classes (limit_of 𝓜 reach k) (ThroughNodes 𝓜 (m_of 𝓜 k) ns) G l → ((r : ℕ) → r < classes → r % 2 ≡ 1 → limit_of 𝓜 reach k < l r)
          → (m : List ℕ) → T (near_to 𝓜 counts reach k word m) → ⊥
      near-spent {classes} twice ns some B spent m t =
          let h = near-exists m t in
          let r = class-lead (K gf) B (omega (arith, wide)) (common-fewer (K gf) some h.0 h.2) h.3 in
          let odd : h.1 % classes % 2 ≡ 1 = ap (λ s. h.1 % s % 2) twice ∙ mod-mod_of_dvd 2 h.1 (dvd-mul_right 2 w) ∙ h.5 in
          omega (arith, h.4, r.1, spent (h.1 % classes) r.0 odd)

      module _ {c : ℕ → GF gf} {l : ℕ} (through : ThroughNodes 𝓜 (m_of 𝓜 k) (nodes_of 𝓜 counts word) c) (leads : Lead (K gf) c l) (decides : l / 2 + reach < count (places 𝓜) counts)
          (m : List ℕ) where
        -- of as many nodes as places count
        enough : l / 2 + reach < length (nodes_of 𝓜 counts word)
        enough = omega (arith, decides, size)

        pub near-lead : T (near_to 𝓜 counts reach k word m) → (j : ℕ) × (l ≡ 2 * (j + m_of 𝓜 k) + 1) × Lead (K gf) (with_z (K gf) (m_of 𝓜 k) c) j
        unfolding X Y Z d
        near-lead t =
            decided-with_z (K gf) w (m_of 𝓜 k) (sample_at 𝓜) d (nodes_of 𝓜 counts word) wide word-points (word-near m t) through leads enough

        pub near-divides : {j : ℕ} → Lead (K gf) (with_z (K gf) (m_of 𝓜 k) c) j → Found (symbols 𝓜) k (near_to 𝓜 counts reach k word) m
            → message_from 𝓜 k (quotient (K gf) w j (with_z (K gf) (m_of 𝓜 k) c) (m_of 𝓜 k) (without_z (K gf) c)) ≡ m
        unfolding X Y Z d
        near-divides lead f =
            ap (message_from 𝓜 k)
            (decided-repairs (K gf) w (m_of 𝓜 k) (sample_at 𝓜) d (nodes_of 𝓜 counts word) wide word-points (word-near m f.passed) through leads
            enough lead)
            ∙ message_from-function 𝓜 f.word

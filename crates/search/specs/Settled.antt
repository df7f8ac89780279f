-- The nodes of the settled places are those that are decided, for every member.
--
--   settled-decided    where the flags are 1 at the places that count but the doubtful ones, and nowhere else
--   flagged-decided    so where none is doubtful: the nodes are those of the word at the places with flag 1
use Rattle.std.specs.Prelude.{Bool, true, false, ◌≡◌, refl, ℕ, ◌<◌, T, get_or}
use Rattle.std.proofs.Common.{sym, ◌∙◌, arith, eq-eqb, eqb-true}
use mathlib.Core.List.Memᴰ
use mathlib.Core.List.{List, [], Memᴰ}
use Rattle.lists.specs.Every.{true-T, T_true}
use Rattle.family.specs.Member.{Member, places}
use Rattle.soft.specs.Blank.{flag_at}
use Rattle.values.specs.Settled.{settled, settled-member, settled_only}
use Rattle.near.specs.Tree.{Decided}
use Rattle.near.specs.Flags.{Flagged}

module _ (word flags : List ℕ) where
  -- those of the places that count, where the flags are 1 at the settled ones of these and nowhere else
  decided-by : (𝓜 : Member) (counts : ℕ → Bool) (ps : List ℕ) → ((p : ℕ) → p < places 𝓜 → get_or flags p 0 ≡ 1 → T (counts p) × (¬ Memᴰ p ps))
      → ((p : ℕ) → p < places 𝓜 → T (counts p) → ¬ Memᴰ p ps → get_or flags p 0 ≡ 1) → Decided 𝓜 counts word ps (settled word flags (places 𝓜))
  decided-by 𝓜 counts ps off on =
      record {
        inside = λ n m.
            let r = settled_only word flags (places 𝓜) n m in
            let q = off r.at r.below r.flag in
            (r.at, r.below, q.0, q.1, r.is);
        covers = λ p h t n. settled-member word flags (places 𝓜) p h (on p h t n);
      }

  pub settled-decided : (𝓜 : Member) (counts : ℕ → Bool) (ps : List ℕ) → Flagged (places 𝓜) counts ps flags
      → Decided 𝓜 counts word ps (settled word flags (places 𝓜))
  settled-decided 𝓜 counts ps F =
      decided-by 𝓜 counts ps
      (λ p h e. (lit p e (counts p) refl, λ i. let z : ◌≡◌ {A = ℕ} 0 1 = sym (F.off p i) ∙ e in absurd (omega arith)))
      (λ p h t n. F.on p h (T_true (counts p) t) n)
    where
      -- a place with the flag 1 counts
      lit : (p : ℕ) → get_or flags p 0 ≡ 1 → (b : Bool) → counts p ≡ b → T (counts p)
      lit p e true c = true-T (counts p) c
      lit p e false c = absurd (F.blank p c e)

  pub flagged-decided : (𝓜 : Member) → Decided 𝓜 (flag_at flags) word [] (settled word flags (places 𝓜))
  flagged-decided 𝓜 =
      decided-by 𝓜 (flag_at flags) [] (λ p h e. (true-T (flag_at flags p) (eq-eqb (get_or flags p 0) 1 e), Memᴰ.not-nil))
      (λ p h t n. eqb-true (get_or flags p 0) 1 (T_true (flag_at flags p) t))

-- A loop that stores f i at i, as one fact that its invariant can name.
--
--   Filled l f i out     the first i entries of out are f 0, …, f (i − 1), and the others are still those of l
--   filled-start, filled-turn, filled-end   before the loop, at each turn, after it
--   filled-read          what is stored can be read
--   filled-length        out is as long as l
use Rattle.std.specs.Prelude.{◌≡◌, List, ◌++◌, ℕ, ◌+◌, ◌<◌, ◌≤◌, length, get_or, set, drop}
use Rattle.std.proofs.Common.{ap, ◌∙◌, arith, length-append, length-drop}
use Rattle.lists.specs.Listed.{listed, listed-length, listed_start, listed-store, listed-read, listed-end}

module _ {A : Type 0} where
  pub record Filled (l : List A) (f : ℕ → A) (i : ℕ) (out : List A) : Type 0 where
    pub within : i ≤ length l
    pub stored : out ≡ listed i f ++ drop i l

  pub filled-start : (l : List A) (f : ℕ → A) → Filled l f 0 l
  filled-start l f = record { within = omega arith; stored = listed_start l f }

  module _ (d : A) {l : List A} {f : ℕ → A} {i : ℕ} {out : List A} (t : Filled l f i out) where
    pub filled-turn : (v : A) → i < length l → v ≡ f i → Filled l f (i + 1) (set out i v)
    filled-turn v h e = record { within = omega arith; stored = listed-store d out l f i v h e t.stored }

    pub filled-read : (k : ℕ) → k < i → get_or out k d ≡ f k
    filled-read k h = listed-read out (drop i l) f i k d h t.stored

    pub filled-length : length out ≡ length l
    filled-length =
        ap length t.stored ∙ length-append (listed i f) (drop i l)
        ∙ omega (arith, listed-length i f, length-drop i l, t.within)

    pub filled-end : (n : ℕ) → length l ≡ n → n ≤ i → out ≡ listed n f
    filled-end n e h =
        let q : i ≡ n = omega (arith, t.within) in
        listed-end out l f i (omega arith) t.stored ∙ ap (λ k. listed k f) q

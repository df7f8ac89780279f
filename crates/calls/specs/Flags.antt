-- A loop that goes through flags and leaves at the first that is not set.
--
--   taken_start, taken_next   before it, and at each turn: the flags of the places passed are set
--   taken-missed         a flag that is not set: not all are
--   taken-end            after it: all are
use Rattle.std.specs.Prelude.{Bool, ◌≡◌, List, ℕ, ◌+◌, ◌<◌}
use Rattle.std.proofs.Math.Bool.{true, false}
use Rattle.std.proofs.Common.{true≢false, ap, ◌∙◌, add-one}
use Rattle.std.proofs.Math.Path.{refl, sym}
use Rattle.std.proofs.Math.ListN.{get_or}
use Rattle.lists.specs.Every.{every, every-at, true-T, T_true}
use Rattle.book.specs.Model.{Model, places}
use Rattle.calls.specs.Held.{taken_below, all_taken}

module _ (flags : List Bool) where
  pub taken_start : taken_below flags 0 ≡ true
  unfolding taken_below every
  taken_start = refl

  pub taken_next : (i : ℕ) → get_or flags i false ≡ true → taken_below flags i ≡ true → taken_below flags (i + 1) ≡ true
  unfolding taken_below every
  taken_next i e t = rw (add-one i, e) t

  module _ (𝓓 : Model) where
    pub taken-missed : (i : ℕ) → i < places 𝓓 → get_or flags i false ≡ false → false ≡ all_taken 𝓓 flags
    unfolding taken_below
    taken-missed i h e = go (all_taken 𝓓 flags) refl
      where
        go : (b : Bool) → all_taken 𝓓 flags ≡ b → false ≡ all_taken 𝓓 flags
        go true t =
            absurd (true≢false (sym (T_true (get_or flags i false) (every-at (places 𝓓) (λ p. get_or flags p false) (true-T (all_taken 𝓓 flags) t) i h)) ∙ e))
        go false t = sym t

    pub taken-end : (i : ℕ) → i ≡ places 𝓓 → taken_below flags i ≡ true → true ≡ all_taken 𝓓 flags
    taken-end i e t = sym (ap (taken_below flags) (sym e) ∙ t)

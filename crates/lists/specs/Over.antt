-- One list written over the front of another.
--
--   over from into   the entries of from, as many as into has room for, and behind them what into has there
--   over-same        two lists of one length: nothing of into is left
--   over-short       into is not longer than from: from's first entries
--   over-entries     the entries of from, one by one, as far as both lists go
--   over-front       as many entries of from as both lists have, and the rest of into
use Rattle.std.specs.Prelude.{◌≡◌, ℕ, min, ◌≤◌, get_or}
use Rattle.std.proofs.Math.Path.{sym, ap, ap₂}
use Rattle.std.proofs.Common.{◌∙◌, drop_of_length-le, take_all}
use mathlib.Core.List.{List, ◌++◌, append-nil}
use Rattle.std.proofs.Math.Decide.{dec_le}
use native.Mathlib.Omega.{arith}
use Rattle.std.proofs.Math.ListN.{length, take, drop}
use Rattle.std.proofs.Math.Seq.{take-length}
use Rattle.lists.specs.Listed.{listed, listed-take}

module _ {A : Type 0} where
  unfoldable pub over : List A → List A → List A
  over from into = take (length into) from ++ drop (length from) into

  pub over-short : (from into : List A) → length into ≤ length from → over from into ≡ take (length into) from
  unfolding over
  over-short from into h = ap (λ (r : List A). take (length into) from ++ r) (drop_of_length-le into h) ∙ append-nil _

  pub over-same : (from into : List A) → length into ≡ length from → over from into ≡ from
  over-same from into e = over-short from into (omega arith) ∙ ap (λ n. take n from) e ∙ take-length from

  -- its front may be given by an equation
  pub over-front : (from into front : List A) (n : ℕ) → n ≡ min (length from) (length into) → front ≡ take n from
      → front ++ drop n into ≡ over from into
  unfolding over
  over-front from into front n e f = ap (λ (l : List A). l ++ drop n into) f ∙ go (dec_le (length from) (length into))
    where
      go : Dec (length from ≤ length into) → take n from ++ drop n into ≡ take (length into) from ++ drop (length from) into
      go (yes h) =
          let q : n ≡ length from = omega arith in
          ap₂ (λ (a b : List A). a ++ b) (ap (λ k. take k from) q ∙ take-length from ∙ sym (take_all (length into) from h)) (ap (λ k. drop k into) q)
      go (no h) =
          let q : n ≡ length into = omega arith in
          ap₂ (λ (a b : List A). a ++ b) (ap (λ k. take k from) q)
          (drop_of_length-le into {i = n} (omega arith) ∙ sym (drop_of_length-le into {i = length from} (omega arith)))

  pub over-entries : (d : A) (from into : List A) (n : ℕ) → n ≡ min (length from) (length into)
      → listed n (λ k. get_or from k d) ++ drop n into ≡ over from into
  over-entries d from into n e = over-front from into (listed n (λ k. get_or from k d)) n e (listed-take n from d (omega arith))

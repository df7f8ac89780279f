-- The turns of the search for a place's record: what is left to search answers as the whole does, further on.
use mathlib.Core.Bool.{cond}
use mathlib.Core.Path.{◌≡◌, ap, ap₂, ◌∙◌}
use mathlib.Core.List.{List}
use Prim.Native.Nat.{ℕ, suc, ◌+◌, ◌-◌, ◌*◌, ◌<◌, ◌≤◌}
use native.Mathlib.Omega.{arith}
use lib.Dec.{eqb}
use lib.ListN.{get_or, drop}
use lib.Seq.{drop-drop}
use borrow.Author.Tests.{eq-eqb, ne_eqb}
use Rattle.book64.specs.captures.Capture.{record_length}
use Rattle.book64.specs.captures.LookUp.{record_with}
use Rattle.book64.specs.Here.{places}
use Rattle.capture.specs.Rest.{rest-first}

module _ (p : ℕ) (records : List ℕ) (i : ℕ) (h : i < places) where
  search-step : record_with p (places - i) (drop (record_length * i) records)
      ≡ cond (eqb (get_or records (record_length * i) 0) p) 0
      (suc (record_with p (places - (i + 1)) (drop (record_length * (i + 1)) records)))
  unfolding record_with
  search-step =
      let e : places - i ≡ suc (places - (i + 1)) = omega arith in
      let f : record_length * i + record_length ≡ record_length * (i + 1) = omega arith in
      ap (λ n. record_with p n (drop (record_length * i) records)) e
      ∙ ap₂ (λ x (l : List ℕ). cond (eqb x p) 0 (suc (record_with p (places - (i + 1)) l))) (rest-first (record_length * i) records)
      (drop-drop record_length (record_length * i) records ∙ ap (λ k. drop k records) f)

  pub search-here : get_or records (record_length * i) 0 ≡ p → record_with p places records ≡ i + record_with p (places - i) (drop (record_length * i) records)
      → i ≡ record_with p places records
  search-here q e =
      omega (arith, e, search-step ∙ ap (λ b. cond b 0 (suc (record_with p (places - (i + 1)) (drop (record_length * (i + 1)) records)))) (eq-eqb (get_or records (record_length * i) 0) p q))

  pub search-next : (get_or records (record_length * i) 0 ≡ p → ⊥) → record_with p places records ≡ i + record_with p (places - i) (drop (record_length * i) records)
      → record_with p places records ≡ i + 1 + record_with p (places - (i + 1)) (drop (record_length * (i + 1)) records)
  search-next q e =
      omega (arith, e, search-step ∙ ap (λ b. cond b 0 (suc (record_with p (places - (i + 1)) (drop (record_length * (i + 1)) records)))) (ne_eqb (get_or records (record_length * i) 0) p q))

pub search-start : (p : ℕ) (records : List ℕ) → record_with p places records ≡ 0 + record_with p (places - 0) (drop (record_length * 0) records)
search-start p records = omega arith

pub search-end : (p : ℕ) (records : List ℕ) (i : ℕ) → places ≤ i → i ≤ places
    → record_with p places records ≡ i + record_with p (places - i) (drop (record_length * i) records) → i ≡ record_with p places records
unfolding record_with
search-end p records i h k e =
    let n : places - i ≡ 0 = omega arith in
    omega (arith, e, ap (λ m. record_with p m (drop (record_length * i) records)) n)

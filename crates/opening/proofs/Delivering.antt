-- The loop that delivers the records of a capture: the outcome of what is left to deliver agrees with that of the whole row.
use mathlib.Core.Path.{◌≡◌, refl, sym, ap, ap₂, ◌∙◌}
use mathlib.Core.List.{List, [], ◌∷◌}
use Prim.Native.Nat.{ℕ, suc, ◌+◌, ◌-◌, ◌*◌, ◌<◌, ◌≤◌}
use native.Mathlib.Omega.{arith}
use lib.ListN.{get_or, take, drop}
use lib.Seq.{drop-drop}
use Rattle.refusals.specs.Refusal.{accepted}
use Rattle.book.specs.Book.{Entry, Outcome}
use Rattle.book64.specs.captures.Capture.{record_length, records_of}
use Rattle.book64.specs.Here.{places, width, deliver_row}
use Rattle.book.specs.rows.AlikeDelivery.{Agreed, agreed-path, agreed-trans}
use Rattle.soft.specs.Column.{costs_from}
use Rattle.session.specs.declared.Session.{Session}
use Rattle.session.specs.Calls.{Ending}
use Rattle.session.specs.View.{book_of, Good}
use Rattle.session.specs.Calls.{refused_with, Opening, Delivery}
use Rattle.capture.specs.Rest.{rest-first}
use Rattle.capture.specs.Delivering.{row-turn, row-stop, row-end}

record-step : (records : List ℕ) (i : ℕ) → i < places
    → records_of (places - i) (drop (record_length * i) records)
    ≡ record {
      place = get_or records (record_length * i) 0;
      column = costs_from width (take (record_length * i + record_length - (record_length * i + 1)) (drop (record_length * i + 1) records));
    } ∷ records_of (places - (i + 1)) (drop (record_length * (i + 1)) records)
unfolding records_of
record-step records i h =
    let at : ℕ = record_length * i in
    let e : places - i ≡ suc (places - (i + 1)) = omega arith in
    let f : at + record_length ≡ record_length * (i + 1) = omega arith in
    let g : 32 ≡ at + record_length - (at + 1) = omega arith in
    ap (λ n. records_of n (drop at records)) e
    ∙ ap₂ (λ (x : Entry) (l : List Entry). x ∷ l)
    (ap₂ (λ p (c : List ℕ). record { place = p; column = costs_from width c }) (rest-first at records)
    (ap₂ (λ k (l : List ℕ). take k l) g (drop-drop 1 at records)))
    (ap (records_of (places - (i + 1))) (drop-drop record_length at records ∙ ap (λ k. drop k records) f))

no-records-left : (bytes : List ℕ) → records_of 0 bytes ≡ []
unfolding records_of
no-records-left bytes = refl

-- what the whole row answers, and what is left of it from the session held after i records
abbrev whole : Session → List ℕ → Outcome
whole start records = deliver_row (book_of start) (records_of places records)

abbrev left : Session → List ℕ → ℕ → Outcome
left current records i = deliver_row (book_of current) (records_of (places - i) (drop (record_length * i) records))

module _ (start current : Session) (records column : List ℕ) (i : ℕ) (r : Ending) (h : i < places) (good : Good current)
    (same : Agreed (whole start records) (left current records i))
    (read : column ≡ costs_from width (take (record_length * i + record_length - (record_length * i + 1)) (drop (record_length * i + 1) records)))
    (d : Delivery current (get_or records (record_length * i) 0) column r) where
  entry : Entry
  entry = record { place = get_or records (record_length * i) 0; column = column }

  rest : List Entry
  rest = records_of (places - (i + 1)) (drop (record_length * (i + 1)) records)

  next : Agreed (whole start records) (deliver_row (book_of current) (entry ∷ rest))
  unfolding entry rest
  next =
      agreed-trans same
      (agreed-path
      (ap (deliver_row (book_of current))
      (record-step records i h
      ∙ ap (λ (c : List ℕ). record { place = get_or records (record_length * i) 0; column = c } ∷ rest) (sym read))))

  pub turn : r.refusal ≡ accepted → Agreed (whole start records) (left r.session records (i + 1))
  unfolding entry rest
  turn n = row-turn (whole start records) current good entry rest r next d n

  pub stop : (r.refusal ≡ accepted → ⊥) → Opening (whole start records) (refused_with r.refusal)
  unfolding entry
  stop n = row-stop (whole start records) current good entry rest r next d n

pub finish : (start current : Session) (records : List ℕ) (i : ℕ) → places ≤ i → Good current
    → Agreed (whole start records) (left current records i)
    → Opening (whole start records) (record { refusal = accepted; session = current })
finish start current records i h good same =
    let n : places - i ≡ 0 = omega arith in
    row-end (whole start records) current good
    (agreed-trans same
    (agreed-path
    (ap (λ k. deliver_row (book_of current) (records_of k (drop (record_length * i) records))) n
    ∙ ap (deliver_row (book_of current)) (no-records-left (drop (record_length * i) records)))))

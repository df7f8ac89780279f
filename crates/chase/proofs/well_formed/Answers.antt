-- The tests one after the other.
use mathlib.Core.Bool.{true}
use mathlib.Core.Path.{◌≡◌, sym, ◌∙◌}
use Rattle.code.specs.Encoding.{known_rate}
use Rattle.search.specs.CallLaws.{rate-refused, size-refused, doubt-refused, places-asked}
use Rattle.chase.specs.Call.{scope64}
use Rattle.chase.proofs.well_formed.Goals as goal

pub returns-then-not-known_rate : goal.returns-then-not-known_rate
returns-then-not-known_rate c =
    elim c.then-not-known_rate.branch [
      | goal.then-not-known_rate-via-then-not-known_rate w ↦ sym (rate-refused scope64 _ _ _ _ (sym c.known_rate.ensures ∙ w.if-not-known_rate.true))
      | goal.then-not-known_rate-via-else-not-known_rate+then-costs-ne-COSTS w ↦
          sym (size-refused scope64 _ _ _ _ (sym c.known_rate.ensures ∙ w.if-not-known_rate.false) w.if-costs-ne-COSTS.true)
      | goal.then-not-known_rate-via-else-not-known_rate+else-costs-ne-COSTS+then-doubt-gt-MOST_DOUBT w ↦
          sym (doubt-refused scope64 _ _ _ _ (sym c.known_rate.ensures ∙ w.if-not-known_rate.false) w.if-costs-ne-COSTS.false w.if-doubt-gt-MOST_DOUBT.true)
    ]

pub returns : goal.returns
returns c =
    let known : known_rate c.args.rate ≡ true =
    sym c.known_rate.ensures ∙ c.if-not-known_rate.false in
    c.are_places.ensures ∙ sym (places-asked scope64 _ _ _ _ (known) c.if-costs-ne-COSTS.false c.if-doubt-gt-MOST_DOUBT.false)

-- For every rate and message of every modem there are an opening, a delivery of each place and a closing that gives the message: what is said of runs is not
-- said of none.
--
--   Answered rate m message report   such a session: opened with the rate and no doubtful place, every delivery accepted, and closed with number 0 and m
use Rattle.std.specs.Prelude.{◌≡◌, ℕ, length}
use mathlib.Core.List.{List, [], Memᴰ}
use Rattle.refusals.specs.Refusal.{accepted}
use Rattle.book.specs.Model.{Model, places}
use Rattle.book.specs.opening.Opening.{open_of}
use Rattle.book.specs.calls.Calls.{Answer, Call, closing, Others}
use Rattle.calls.specs.Keeping.{Keeping}
use Rattle.calls.specs.Promises.{Opening}
use Rattle.calls.specs.Step.{Step}
use Rattle.calls.specs.Runs.{Run}

module _ {𝓓 : Model} {X S : Type 0} (others : Others 𝓓 X) (K : Keeping S) where
  pub record Answered (rate : ℕ) (m message report : List ℕ) : Type 0 where
    pub opened : S
    pub opening : Opening 𝓓 K (open_of 𝓓 rate []) accepted opened
    pub calls : List (Call X)
    pub many : length calls ≡ places 𝓓
    pub given : List Answer
    pub left : S
    pub run : Run others K opened calls given left
    pub all_accepted : (a : Answer) → Memᴰ a given → a.number ≡ accepted
    pub answer : Answer
    pub after : S
    pub step : Step others K left (closing message report) answer after
    pub number : answer.number ≡ accepted
    pub sent : answer.first ≡ m

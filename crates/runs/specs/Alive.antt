-- For every rate and message there are an opening, 64 deliveries and a closing that gives the message: what is said of runs is not said of none.
-- (`calls` Alive, of the modem of 64 places.)
--
--   Answered rate m message report   such a session: opened with the rate and no doubtful place, every delivery accepted, and closed with number 0 and m
--   alive                so there is one for every rate, every message and buffers of the right sizes
use Rattle.std.specs.Prelude.{◌≡◌, ℕ, length}
use mathlib.Core.List.{List, [], Memᴰ}
use Rattle.refusals.specs.Refusal.{accepted}
use Rattle.lists.specs.Words.{Word}
use Rattle.book64.specs.Rates.{Rate, rate_known}
use Rattle.book.specs.calls.Calls.{Answer}
use Rattle.book64.specs.calls.Calls.{Call, closing}
use Rattle.book64.proofs.calls.Calls.{others64}
use Rattle.book64.specs.Here.{report_length, open_of}
use Rattle.calls.proofs.Alive as any
use Rattle.session.specs.declared.Session.{Session}
use Rattle.session.specs.View.{keeping}
use Rattle.session.specs.Calls.{Ending, Opening}
use Rattle.runs.specs.Step.{Step}
use Rattle.runs.specs.Runs.{Run}

pub record Answered (rate : ℕ) (m message report : List ℕ) : Type 0 where
  pub opened : Ending
  pub opening : Opening (open_of rate []) opened
  pub calls : List Call
  pub many : length calls ≡ 64
  pub given : List Answer
  pub left : Session
  pub run : Run opened.session calls given left
  pub all_accepted : (a : Answer) → Memᴰ a given → a.number ≡ accepted
  pub answer : Answer
  pub after : Session
  pub step : Step left (closing message report) answer after
  pub number : answer.number ≡ accepted
  pub sent : answer.first ≡ m

pub alive : {rate : ℕ} → Rate rate → {m : List ℕ} → Word 16 rate m → (message report : List ℕ) → length message ≡ rate
    → length report ≡ report_length → Answered rate m message report
alive known word message report long whole_report =
    let a = any.alive others64 keeping (rate_known known) word message report long whole_report in
    record {
      opened = record { refusal = accepted; session = a.opened };
      opening = a.opening;
      calls = a.calls;
      many = a.many;
      given = a.given;
      left = a.left;
      run = a.run;
      all_accepted = a.all_accepted;
      answer = a.answer;
      after = a.after;
      step = a.step;
      number = a.number;
      sent = a.sent;
    }

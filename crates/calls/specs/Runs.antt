-- Runs: lists of calls, each made on the session that the one before it left (`book` Machine, of the sessions of every modem).
--
--   Run s calls given t     the calls are given these answers from the session s, and the session t is left
--   faithful             steps from good sessions answer and leave as the book says
--   every-run            from a good session the answers of every run are the book's
--   run-good, run-book   the session left is good, and its book agrees with the book after the calls
--   one_end              so the calls determine the session left
--   run_fits             the arguments of the calls of a run are what their types say: each column that was delivered is a column of costs
--   some-step, some_run  every call whose column is one, and every list of them, can be made on every good session: the theorems are not empty
--   Made delivers withdraws closes asks s call a t   the call, by the relations that functions make between what they are given and what they hand back
--   Promised delivers withdraws closes asks   these promise what Promises says
--   made-step, made-run  then a call so made is a step, and a list of them a run
use Rattle.std.specs.Prelude.{Bool, true, false, ◌≡◌, refl, List, [], ℕ, ◌<◌, length, get_or}
use Rattle.std.proofs.Math.Decide.{dec_lt}
use Rattle.std.proofs.Common.{arith}
use Rattle.book.specs.Machine as machine
use Rattle.book.proofs.Machine as machine-laws
use Rattle.book.specs.Machine.{fit_nil, fit_cons}
use Rattle.book.specs.Model.{Model, places, width}
use Rattle.book.specs.Columns.{Agree}
use Rattle.book.specs.rows.Costs.{IsColumn}
use Rattle.book.specs.calls.Calls.{Answer, Call, deliver, withdraw, closing, other, Others, answer, after, answers, after_all}
use Rattle.book.specs.calls.CallLaws.{Fits, AllFit}
use Rattle.book.proofs.calls.CallLaws.{likeness, refused-lent, lent-sized}
use Rattle.calls.specs.Held.{with_column, without_column}
use Rattle.calls.specs.Keeping.{Keeping, book_of, Good, good-proper, one-session}
use Rattle.calls.specs.Promises.{Delivery, Withdrawal, Closing, Asking}
use Rattle.calls.specs.PromiseLaws.{delivery-above, delivery-taken, delivery-accepted, withdrawal-above, withdrawal-free, withdrawal-accepted}
use Rattle.calls.specs.Step.{Step, answer_with, kept_step, delivery-step, withdrawal-step, closing-step, asking-step}

module _ {𝓓 : Model} {X S : Type 0} (others : Others 𝓓 X) (K : Keeping S) where
  abbrev pub Run : S → List (Call X) → List Answer → S → Type 0
  Run = machine.Run (Step others K)

  pub faithful : (s : S) (call : Call X) (a : Answer) (t : S) → Step others K s call a t → Good 𝓓 K s
      → machine.AsBook (Good 𝓓 K) (book_of 𝓓 K) Agree (answer others) (after others) s call a t
  faithful s call a t step good = record { answered = step.answered good; good = step.good good; book = step.book good }

  pub every-run : {s t : S} {calls : List (Call X)} {given : List Answer} → Run s calls given t → Good 𝓓 K s
      → given ≡ answers others (book_of 𝓓 K s) calls
  every-run run good = (machine-laws.every-run (likeness others) faithful run good).answered

  pub run-good : {s t : S} {calls : List (Call X)} {given : List Answer} → Run s calls given t → Good 𝓓 K s → Good 𝓓 K t
  run-good run good = (machine-laws.every-run (likeness others) faithful run good).good

  pub run-book : {s t : S} {calls : List (Call X)} {given : List Answer} → Run s calls given t → Good 𝓓 K s
      → Agree (book_of 𝓓 K t) (after_all others (book_of 𝓓 K s) calls)
  run-book run good = (machine-laws.every-run (likeness others) faithful run good).book

  pub one_end : {s t u : S} {calls : List (Call X)} {given other : List Answer} → Good 𝓓 K s → Run s calls given t → Run s calls other u → t ≡ u
  one_end = machine-laws.one_end (likeness others) faithful (one-session 𝓓 K)

  -- what the types say of the arguments of each call
  pub run_fits : {s t : S} {calls : List (Call X)} {given : List Answer} → Run s calls given t → AllFit 𝓓 calls
  run_fits machine.done = fit_nil
  run_fits (machine.next step run) = fit_cons step.fits (run_fits run)

  -- ---- every list of calls has a run

  some-delivery : (s : S) (p : ℕ) (column : List ℕ) → length column ≡ width 𝓓 → (n : ℕ) × (t : S) × Delivery 𝓓 K s p column n t
  some-delivery s p column long = go (dec_lt p (places 𝓓)) (get_or (K.held s).taken p false) refl
    where
      go : Dec (p < places 𝓓) → (b : Bool) → get_or (K.held s).taken p false ≡ b → (n : ℕ) × (t : S) × Delivery 𝓓 K s p column n t
      go (yes h) true e = (_, _, delivery-taken 𝓓 K s p column h e)
      go (yes h) false e = (_, _, delivery-accepted 𝓓 K s p column h e long (K.held_made (with_column 𝓓 (K.held s) p column)))
      go (no h) b e = (_, _, delivery-above 𝓓 K s p column (omega arith))

  some-withdrawal : (s : S) (p : ℕ) → (n : ℕ) × (t : S) × Withdrawal 𝓓 K s p n t
  some-withdrawal s p = go (dec_lt p (places 𝓓)) (get_or (K.held s).taken p false) refl
    where
      go : Dec (p < places 𝓓) → (b : Bool) → get_or (K.held s).taken p false ≡ b → (n : ℕ) × (t : S) × Withdrawal 𝓓 K s p n t
      go (yes h) true e = (_, _, withdrawal-accepted 𝓓 K s p h e (K.held_made (without_column 𝓓 (K.held s) p)))
      go (yes h) false e = (_, _, withdrawal-free 𝓓 K s p h e)
      go (no h) b e = (_, _, withdrawal-above 𝓓 K s p (omega arith))

  -- a call that leaves the book as it was
  some-kept : (s : S) (call : Call X) → Good 𝓓 K s → Fits 𝓓 call → after others (book_of 𝓓 K s) call ≡ book_of 𝓓 K s
      → Step others K s call (answer others (book_of 𝓓 K s) call) s
  some-kept s call good fits same =
      kept_step others K fits (λ g. refl) same (refused-lent others (book_of 𝓓 K s) call)
      (lent-sized others (book_of 𝓓 K s) call (good-proper 𝓓 K s good))

  pub some-step : (s : S) (call : Call X) → Good 𝓓 K s → Fits 𝓓 call → (a : Answer) × (t : S) × Step others K s call a t
  unfolding after
  some-step s (deliver p column) good fits = let d = some-delivery s p column fits.whole in (_, d.1, delivery-step others K d.2 fits)
  some-step s (withdraw p) good u = let w = some-withdrawal s p in (_, w.1, withdrawal-step others K w.2)
  some-step s (closing message report) good u = (_, s, some-kept s (closing message report) good u refl)
  some-step s (other x) good u = (_, s, some-kept s (other x) good u refl)

  pub some_run : {calls : List (Call X)} → AllFit 𝓓 calls → (s : S) → Good 𝓓 K s → (given : List Answer) × (t : S) × Run s calls given t
  some_run = machine-laws.some_run (likeness others) faithful some-step

  -- ---- from functions to runs

  module _ (delivers : S → ℕ → List ℕ → ℕ → S → Type 0) (withdraws : S → ℕ → ℕ → S → Type 0)
      (closes : S → List ℕ → List ℕ → ℕ → List ℕ → List ℕ → Type 0) (asks : S → X → ℕ → List ℕ → Type 0) where
    pub data Made : S → Call X → Answer → S → Type 0 where
      by_delivery : {s t : S} {p : ℕ} {column : List ℕ} {n : ℕ} → IsColumn 𝓓 column → delivers s p column n t
          → Made s (deliver p column) (answer_with n [] []) t
      by_withdrawal : {s t : S} {p n : ℕ} → withdraws s p n t → Made s (withdraw p) (answer_with n [] []) t
      by_closing : {s : S} {message report message' report' : List ℕ} {n : ℕ} → closes s message report n message' report'
          → Made s (closing message report) (answer_with n message' report') s
      by_asking : {s : S} {x : X} {bytes : List ℕ} {n : ℕ} → asks s x n bytes → Made s (other x) (answer_with n bytes []) s

    pub record Promised : Type 0 where
      pub delivery : {s t : S} {p : ℕ} {column : List ℕ} {n : ℕ} → delivers s p column n t → Delivery 𝓓 K s p column n t
      pub withdrawal : {s t : S} {p n : ℕ} → withdraws s p n t → Withdrawal 𝓓 K s p n t
      pub closing : {s : S} {message report message' report' : List ℕ} {n : ℕ} → closes s message report n message' report'
          → Closing 𝓓 K s message report n message' report'
      pub asking : {s : S} {x : X} {bytes : List ℕ} {n : ℕ} → asks s x n bytes → Asking 𝓓 K others s x n bytes

    module _ (promised : Promised) where
      pub made-step : {s t : S} {call : Call X} {a : Answer} → Made s call a t → Step others K s call a t
      made-step (by_delivery column d) = delivery-step others K (promised.delivery d) column
      made-step (by_withdrawal w) = withdrawal-step others K (promised.withdrawal w)
      made-step (by_closing c) = closing-step others K (promised.closing c)
      made-step (by_asking x) = asking-step others K (promised.asking x)

      pub made-run : {s t : S} {calls : List (Call X)} {given : List Answer} → machine.Run Made s calls given t → Run s calls given t
      made-run machine.done = machine.done
      made-run (machine.next made run) = machine.next (made-step made) (made-run run)

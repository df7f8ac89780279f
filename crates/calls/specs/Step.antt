-- A step: one call, made on a session. Of every modem.
--
--   changes call         it is a delivery or a withdrawal, the calls that may change a session
--   Step s call a t      the call, made on the session s, is given the answer a and leaves the session t: of a good session the answer is the book's,
--                        and the session left is good and its book agrees with the book after the call. Whatever the session, a refused call leaves the
--                        session and the lent buffers as they were, every call but a delivery and a withdrawal leaves the session as it was, no buffer
--                        changes its length, and the call's arguments are what their types say
--   answer_with n first second   a number and what the lent buffers hold afterwards
--   typed-column         a column by its type: a cost of 16 bits for each symbol
--   kept_step            a call that leaves the session as it was
--   delivery-step, withdrawal-step, closing-step, asking-step   what each call promises (Promises) is such a step
use Rattle.std.specs.Prelude.{Bool, true, false, ◌≡◌, List, [], ◌≢◌, ℕ, length}
use Rattle.std.proofs.Common.{true≢false, sym, arith}
use Rattle.std.proofs.Math.Path.{refl}
use Rattle.refusals.specs.Refusal.{accepted}
use Rattle.lists.specs.Distinct.{below, below_at}
use Rattle.book.specs.Model.{Model, width}
use Rattle.book.specs.Columns.{Agree, agree-path}
use Rattle.book.specs.rows.Costs.{IsColumn}
use Rattle.book.specs.calls.Calls.{Answer, Call, deliver, withdraw, closing, other, Others, first_lent, second_lent, answer, after}
use Rattle.book.specs.calls.CallLaws.{Fits}
use Rattle.calls.specs.Keeping.{Keeping, book_of, Good}
use Rattle.calls.specs.Promises.{Delivery, Withdrawal, Closing, Asking}

unfoldable pub changes : {X : Type 0} → Call X → Bool
changes (deliver p column) = true
changes (withdraw p) = true
changes (closing message report) = false
changes (other x) = false

abbrev pub answer_with : ℕ → List ℕ → List ℕ → Answer
answer_with n first second = record { number = n; first = first; second = second }

answer-path : {n m : ℕ} {a b c d : List ℕ} → n ≡ m → a ≡ b → c ≡ d → answer_with n a c ≡ answer_with m b d
answer-path e f g = λ i. answer_with (e i) (f i) (g i)

pub typed-column : (𝓓 : Model) (column : List ℕ) → length column ≡ width 𝓓 → below 65536 column ≡ true → IsColumn 𝓓 column
typed-column 𝓓 column long small =
    record { whole = long; costs = λ s l. let h = below_at 65536 column s small (omega (arith, long, l)) in omega (arith, h) }

module _ {𝓓 : Model} {X S : Type 0} (others : Others 𝓓 X) (K : Keeping S) where
  pub record Step (s : S) (call : Call X) (a : Answer) (t : S) : Type 0 where
    pub fits : Fits 𝓓 call
    pub answered : Good 𝓓 K s → a ≡ answer others (book_of 𝓓 K s) call
    pub good : Good 𝓓 K s → Good 𝓓 K t
    pub book : Good 𝓓 K s → Agree (book_of 𝓓 K t) (after others (book_of 𝓓 K s) call)
    pub refused : a.number ≢ accepted → (t ≡ s) × (a.first ≡ first_lent others call) × (a.second ≡ second_lent others call)
    pub kept : changes call ≡ false → t ≡ s
    pub sized : (length a.first ≡ length (first_lent others call)) × (length a.second ≡ length (second_lent others call))

  pub delivery-step : {s : S} {p : ℕ} {column : List ℕ} {n : ℕ} {t : S} → Delivery 𝓓 K s p column n t → IsColumn 𝓓 column
      → Step s (deliver p column) (answer_with n [] []) t
  unfolding changes first_lent second_lent answer after
  delivery-step d column =
      record {
        fits = column;
        answered = λ good. answer-path (d.number good) refl refl;
        good = d.good;
        book = d.book;
        refused = λ n. (d.kept n, refl, refl);
        kept = λ e. absurd (true≢false e);
        sized = (refl, refl);
      }

  pub withdrawal-step : {s : S} {p : ℕ} {n : ℕ} {t : S} → Withdrawal 𝓓 K s p n t → Step s (withdraw p) (answer_with n [] []) t
  unfolding changes first_lent second_lent answer after
  withdrawal-step w =
      record {
        fits = tt;
        answered = λ good. answer-path (w.number good) refl refl;
        good = w.good;
        book = w.book;
        refused = λ n. (w.kept n, refl, refl);
        kept = λ e. absurd (true≢false e);
        sized = (refl, refl);
      }

  pub kept_step : {s : S} {call : Call X} {a : Answer} → Fits 𝓓 call → (Good 𝓓 K s → a ≡ answer others (book_of 𝓓 K s) call)
      → after others (book_of 𝓓 K s) call ≡ book_of 𝓓 K s
      → (a.number ≢ accepted → (a.first ≡ first_lent others call) × (a.second ≡ second_lent others call))
      → (length a.first ≡ length (first_lent others call)) × (length a.second ≡ length (second_lent others call)) → Step s call a s
  kept_step fits answered same refused sized =
      record {
        fits = fits;
        answered = answered;
        good = λ good. good;
        book = λ good. agree-path (sym same);
        refused = λ n. (refl, (refused n).0, (refused n).1);
        kept = λ e. refl;
        sized = sized;
      }

  pub closing-step : {s : S} {message report message' report' : List ℕ} {n : ℕ} → Closing 𝓓 K s message report n message' report'
      → Step s (closing message report) (answer_with n message' report') s
  unfolding first_lent second_lent answer after
  closing-step c =
      kept_step tt (λ good. answer-path (c.number good) (c.message_bytes good) (c.report_bytes good)) refl
      (λ n. (c.message_kept n, c.report_kept n)) (c.message_size, c.report_size)

  pub asking-step : {s : S} {x : X} {bytes : List ℕ} {n : ℕ} → Asking 𝓓 K others s x n bytes → Step s (other x) (answer_with n bytes []) s
  unfolding first_lent second_lent answer after
  asking-step r = kept_step tt (λ good. answer-path (r.number good) (r.bytes good) refl) refl (λ n. (r.kept n, refl)) (r.size, refl)

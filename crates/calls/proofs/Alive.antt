-- For every rate and message of every modem there are an opening, a delivery of each place and a closing that gives the message: what is said of runs is not
-- said of none.
--
--   alive                so there is one for every known rate, every message and buffers of the right sizes
use Rattle.std.specs.Prelude.{◌≡◌, refl, ℕ, suc, length}
use Rattle.std.proofs.Math.Path.{sym, ap}
use Rattle.std.proofs.Common.{◌∙◌, subst}
use mathlib.Core.List.{List, [], ◌∷◌, Memᴰ}
use Rattle.refusals.specs.Refusal.{accepted}
use Rattle.lists.specs.Listed.{listed-length}
use Rattle.lists.specs.Words.{Word}
use Rattle.book.specs.Model.{Model, places, width}
use Rattle.book.specs.Book.{Entry, Book, new_book, Outcome}
use Rattle.book.specs.sentences.Alive.{sent_row, sent_book}
use Rattle.book.proofs.sentences.Alive.{sent-columns, sent-delivered, sent-closes}
use Rattle.book.specs.opening.Opening.{open_of}
use Rattle.book.specs.opening.OpeningLaws.{Known, list-fits}
use Rattle.book.specs.rows.Costs.{RowColumns}
use Rattle.book.specs.closing.Closing.{Closed, report_length, close_of}
use Rattle.book.specs.calls.Calls.{Answer, closing, Others, answers, after_all}
use Rattle.book.specs.calls.CallLaws.{AllFit, deliveries}
use Rattle.book.proofs.calls.CallLaws.{row-calls}
use Rattle.book.specs.Machine.{fit_nil, fit_cons}
use Rattle.book.specs.tables.Table.{entries_of}
use Rattle.book.specs.tables.TableSentences.{up_to}
use Rattle.calls.specs.Held.{new_held}
use Rattle.calls.specs.Keeping.{Keeping}
use Rattle.calls.specs.Promises.{Opening}
use Rattle.calls.specs.PromiseLaws.{no-places, opens-new}
use Rattle.calls.specs.Runs.{some-step}
use Rattle.calls.specs.Follows.{closed_by}
use Rattle.calls.proofs.Follows.{opening-stands, stands-follows, closes_as}
use Rattle.calls.specs.Alive.{Answered}

-- deliveries of columns of costs
pub deliveries-fit : (𝓓 : Model) {X : Type 0} (entries : List Entry) → RowColumns 𝓓 entries → AllFit 𝓓 {X = X} (deliveries entries)
unfolding deliveries
deliveries-fit 𝓓 [] all = fit_nil
deliveries-fit 𝓓 (e ∷ entries) all = fit_cons (all e (Memᴰ.head refl)) (deliveries-fit 𝓓 entries (λ x i. all x (Memᴰ.tail i)))

deliveries-many : (X : Type 0) (columns : ℕ → List ℕ) (order : List ℕ) → length (deliveries {X = X} (entries_of columns order)) ≡ length order
unfolding deliveries entries_of
deliveries-many X columns [] = refl
deliveries-many X columns (p ∷ order) = ap suc (deliveries-many X columns order)

module _ {𝓓 : Model} {X S : Type 0} (others : Others 𝓓 X) (K : Keeping S) where
  module _ {rate : ℕ} (known : Known 𝓓 rate) {m : List ℕ} (word : Word (width 𝓓) rate m) (message report : List ℕ) (long : length message ≡ rate)
      (whole_report : length report ≡ report_length 𝓓) where
    row : List Entry
    row = sent_row 𝓓 rate m

    delivered : (after_all others (new_book rate []) (deliveries row) ≡ sent_book 𝓓 rate m)
        × ((a : Answer) → Memᴰ a (answers others (new_book rate []) (deliveries row)) → a.number ≡ accepted)
    unfolding row
    delivered =
        let d = sent-delivered 𝓓 rate m in
        let c = row-calls others (new_book rate []) (sent_row 𝓓 rate m) (ap (λ (o : Outcome). o.number) d) in
        (sym c.0 ∙ ap (λ (o : Outcome). o.book) d, c.1)

    many-calls : length (deliveries {X = X} row) ≡ places 𝓓
    unfolding row sent_row up_to
    many-calls = deliveries-many X _ _ ∙ listed-length (places 𝓓) (λ p. p)

    pub alive : Answered others K rate m message report
    unfolding row
    alive =
        let s : S = K.made (new_held 𝓓 rate []) in
        let opening : Opening 𝓓 K (open_of 𝓓 rate []) accepted s =
        opens-new 𝓓 K rate [] known (list-fits 𝓓 (no-places 𝓓)) (K.held_made (new_held 𝓓 rate [])) in
        let follows = stands-follows 𝓓 K others (opening-stands 𝓓 K known (no-places 𝓓) opening) in
        let r = follows.not_empty (deliveries-fit 𝓓 row (sent-columns 𝓓 rate m)) in
        let c = some-step others K r.1 (closing message report) (follows.left r.2).0 tt in
        let closed = closes_as others K follows r.2 c.2 in
        let repaired = sent-closes 𝓓 rate m known word message report long whole_report in
        let same : closed_by c.0 ≡ close_of 𝓓 (sent_book 𝓓 rate m) message report =
        sym closed ∙ ap (λ (b : Book). close_of 𝓓 b message report) delivered.0 in
        record {
          opened = s;
          opening = opening;
          calls = deliveries row;
          many = many-calls;
          given = r.0;
          left = r.1;
          run = r.2;
          all_accepted = λ a i. delivered.1 a (subst (Memᴰ a) (follows.answered r.2) i);
          answer = c.0;
          after = c.1;
          step = c.2;
          number = ap (λ (c : Closed). c.number) same ∙ repaired.number;
          sent = ap (λ (c : Closed). c.message) same ∙ repaired.message;
        }

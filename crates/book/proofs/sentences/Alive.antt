-- A frame in which every symbol arrived as it was sent: for every rate and message of every modem there is a session that answers with that message. So what is
-- said of sessions is not said of none.
--
--   sent-columns           they are columns of costs
--   sent-full, sent-blank  no place is missing, and none is blank
--   sent-delivered         each delivery is accepted
--   sent-closes            closing gives the message sent, with its report
use Rattle.std.proofs.Math.Bool.{cond}
use Rattle.std.specs.Prelude.{◌≡◌, refl, ℕ, ◌<◌, ◌≤◌, length}
use Rattle.std.proofs.Common.{sym, ◌∙◌, subst, ⊎_elim, mul-le-mul_left, arith}
use Rattle.std.proofs.Math.Path.{ap}
use mathlib.Core.List.Memᴰ
use mathlib.Core.List.{List, [], ◌∷◌, Memᴰ}
use Rattle.std.proofs.Math.Option.{some, none}
use Rattle.std.proofs.Math.Decide.{ℕ_discrete}
use Rattle.refusals.specs.Refusal.{accepted}
use Rattle.lists.specs.Count.{count_none}
use Rattle.lists.specs.Distinct.{below, distinct, distinct-all}
use Rattle.lists.specs.Listed.{listed-length}
use Rattle.lists.specs.Words.{Word}
use Rattle.soft.specs.Blank.{blanks_of, blank_at}
use Rattle.soft.specs.Column.{ceiling, cost_of, is_blank}
use Rattle.soft.specs.Hard.{hard_column, hard-length, hard-own, hard-other, hard-best, hard-open}
use Rattle.soft.specs.TestWord.{best_at}
use Rattle.soft.specs.Total.{symbol_at}
use Rattle.family.specs.Encoding.{encode_of}
use Rattle.family.specs.Evaluation.{encode-at}
use Rattle.book.specs.Model.{Model, places, width}
use Rattle.book.specs.Book.{Entry, new_book, column_in}
use Rattle.book.specs.Columns.{columns_of, columns-taken}
use Rattle.book.specs.rows.Costs.{IsColumn, RowColumns}
use Rattle.book.specs.rows.Delivery.{deliver_row}
use Rattle.book.specs.Entries.{Missing, column-entry}
use Rattle.book.specs.closing.Closing.{report_length, close_of}
use Rattle.book.specs.opening.OpeningLaws.{Known}
use Rattle.book.specs.rows.RowDelivery.{extended, row-delivered}
use Rattle.book.specs.tables.Table.{entries_of}
use Rattle.book.proofs.tables.Table.{entries-places, entries-column}
use Rattle.book.specs.tables.TableSentences.{up_to}
use Rattle.book.proofs.tables.TableSentences.{up-to}
use Rattle.book.specs.sentences.Repairs.{Repaired}
use Rattle.book.proofs.sentences.Repairs.{faded-right}
use Rattle.book.specs.sentences.Alive.{sent_column, sent_row, sent_book}

-- a property of every column of the entries
entries-each : (P : List ℕ → Type 0) (columns : ℕ → List ℕ) → ((p : ℕ) → P (columns p)) → (order : List ℕ) (e : Entry)
    → Memᴰ e (entries_of columns order) → P e.column
unfolding entries_of
entries-each P columns h [] e m = absurd (Memᴰ.not-nil m)
entries-each P columns h (p ∷ order) e m =
    ⊎_elim (λ (q : e ≡ record { place = p; column = columns p }). subst (λ (x : Entry). P x.column) (sym q) (h p))
    (λ i. entries-each P columns h order e i) (Memᴰ.cases_cons m)

module _ (𝓓 : Model) where
  open 𝓓 use {member}

  -- a modem has four symbols at least
  two-symbols : 1 < width 𝓓
  two-symbols = omega (arith, member.square, mul-le-mul_left member.w member.wide)

  module _ (k : ℕ) (m : List ℕ) where
    places-long : length (up_to (places 𝓓)) ≡ places 𝓓
    unfolding up_to
    places-long = listed-length (places 𝓓) (λ p. p)

    column-there : (p : ℕ) → p < places 𝓓 → column_in (sent_row 𝓓 k m) p ≡ some (sent_column 𝓓 k m p)
    unfolding sent_row
    column-there p h =
        let u = up-to (places 𝓓) (places 𝓓) (omega arith) in
        entries-column (sent_column 𝓓 k m) (up_to (places 𝓓)) p
        ∙ ap (λ b. cond b (some (sent_column 𝓓 k m p)) none) (distinct-all (places 𝓓) (up_to (places 𝓓)) p u.0 u.1 (omega (arith, places-long)) h)

    column-is : (p : ℕ) → p < places 𝓓 → columns_of 𝓓 (sent_row 𝓓 k m) p ≡ sent_column 𝓓 k m p
    column-is p h = columns-taken 𝓓 (sent_row 𝓓 k m) p (column-there p h)

    symbol : (p : ℕ) → p < places 𝓓 → symbol_at (encode_of member k m) p < width 𝓓
    symbol p h = encode-at member k m p h

    pub sent-full : (p : ℕ) → Missing 𝓓 (sent_row 𝓓 k m) p → ⊥
    sent-full p missing =
        let e = column-entry (sent_row 𝓓 k m) p (column-there p missing.one_of_them) in
        missing.absent e.0 e.1 e.2

    pub sent-blank : blanks_of (places 𝓓) (columns_of 𝓓 (sent_row 𝓓 k m)) ≡ 0
    unfolding blanks_of
    sent-blank =
        count_none (places 𝓓) (blank_at (columns_of 𝓓 (sent_row 𝓓 k m)))
        (λ p h. ap is_blank (column-is p h) ∙ hard-open (width 𝓓) (symbol_at (encode_of member k m) p) two-symbols (symbol p h))

    -- costs of 0 and 1
    hard-costs : (q s t : ℕ) → t < q → cost_of (hard_column q s) t ≤ ceiling
    hard-costs q s t h = go (ℕ_discrete s t)
      where
        go : Dec (s ≡ t) → cost_of (hard_column q s) t ≤ ceiling
        go (yes e) = omega (arith, ap (λ x. cost_of (hard_column q s) x) (sym e) ∙ hard-own q s (omega arith))
        go (no d) = omega (arith, hard-other q s t h d)

    pub sent-columns : RowColumns 𝓓 (sent_row 𝓓 k m)
    unfolding sent_row
    sent-columns = entries-each (IsColumn 𝓓) (sent_column 𝓓 k m) (λ p. record {
      whole = hard-length (width 𝓓) (symbol_at (encode_of member k m) p);
      costs = hard-costs (width 𝓓) (symbol_at (encode_of member k m) p);
    }) (up_to (places 𝓓))

    pub sent-delivered : deliver_row 𝓓 (new_book k []) (sent_row 𝓓 k m) ≡ record { number = accepted; book = sent_book 𝓓 k m }
    unfolding new_book sent_row extended
    sent-delivered =
        let u = up-to (places 𝓓) (places 𝓓) (omega arith) in
        row-delivered 𝓓 (new_book k []) (sent_row 𝓓 k m)
        (ap (below (places 𝓓)) (entries-places (sent_column 𝓓 k m) (up_to (places 𝓓))) ∙ u.1)
        (ap distinct (entries-places (sent_column 𝓓 k m) (up_to (places 𝓓))) ∙ u.0)

    pub sent-closes : Known 𝓓 k → Word (width 𝓓) k m → (message report : List ℕ) → length message ≡ k → length report ≡ report_length 𝓓
        → Repaired 𝓓 k (columns_of 𝓓 (sent_row 𝓓 k m)) [] m (close_of 𝓓 (sent_book 𝓓 k m) message report)
    sent-closes rate word message report long whole_report =
        faded-right 𝓓 (sent_book 𝓓 k m) sent-full message report long whole_report m rate refl word (omega (arith, sent-blank))
        (λ p h o. sym (ap (λ (c : List ℕ). best_at (λ q. c) p) (column-is p h)
        ∙ hard-best (width 𝓓) (symbol_at (encode_of member k m) p) two-symbols (symbol p h)))

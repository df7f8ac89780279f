-- From what a search found to what decoding answers, in every modem.
--
--   told-near, told-blank   the two cases of what is said where nobody was found, by the flags of the places that are not blank
--   found-open         a search that finds nobody with too many blank places, and finds somebody, has no more of them than the limit
--   markable           a codeword may be asked for its mark
--   Nobody             no codeword is near, where no more places are blank than the limit
--   Somebody m t d tests   m is the answer's message, with no more blank places than the limit, t its total, d its margin, and so many test words have a
--                      codeword within T
--   tests-few          no more of them than 2 to the power of the largest doubt
--   answered-none      nobody found: refused with 12 where too many places are blank, and else with 9, the buffers as they were
--   answered-near      somebody near: the message, and the report with its total, the count, the pinned and changed places of its codeword, the
--                      margin, and the mark
--   decoded-near       the same from a function's steps
use Rattle.std.specs.Prelude.{not, ◌≡◌, ℕ, ◌-◌, ◌^◌, ◌<◌, ◌≤◌, length}
use Rattle.std.proofs.Math.Bool.{cond}
use Rattle.std.proofs.Math.Path.{sym, ap, ap₂}
use Rattle.std.proofs.Common.{◌∙◌, subst, arith, le-leb}
use mathlib.Core.List.{List}
use Rattle.std.proofs.Math.Option.{Option, none, some, none-ne-some}
use Rattle.std.proofs.Math.Decide.{dec_le}
use Rattle.std.proofs.Math.ListN.{take}
use Rattle.std.proofs.lemmas.Bool.{lt-leb}
use Rattle.refusals.specs.Refusal.{accepted, none_near, too_blank}
use Rattle.lists.specs.Count.{bit, count}
use Rattle.lists.specs.Over.{over, over-same, over-short}
use Rattle.soft.specs.Column.{column_of}
use Rattle.soft.specs.Blank.{blanks_of, flags_of, flag_at}
use Rattle.soft.specs.ColumnLaws.{column-length}
use Rattle.soft.specs.BlankLaws.{flags-blanks}
use Rattle.soft.specs.Total.{symbol_at, pinned_of, changed_of, changed_flags, report_of}
use Rattle.soft.specs.TotalLaws.{changed-flags}
use Rattle.soft.specs.Mark.{is_marked}
use Rattle.weighing.specs.Low.{Markable}
use Rattle.family.specs.Encoding.{encode_of}
use Rattle.near.specs.Near.{m_of, blank_limit, message_cost}
use Rattle.near.specs.Cheapest.{marked_of}
use Rattle.near.specs.Codeword.{codeword-symbol}
use Rattle.book.specs.Model.{Model, places, width}
use Rattle.book.specs.closing.Closing.{refused_closing, tests_for, answer_for, margin_for, report_for, decode_of}
use Rattle.book.proofs.closing.ClosingLaws.{decode-too-blank, decode-none, decode-some}
use Rattle.book.specs.tables.Table.{closed}
use Rattle.book.proofs.closing.Report.{test-count-fits}
use Rattle.answering.specs.Decoding.{unanswered_of}

pub found-open : {A : Type 0} {o : Option A} {a : A} (blank limit : ℕ) → (limit < blank → o ≡ none) → o ≡ some a → blank ≤ limit
found-open {o = o} {a} blank limit nobody e = go (dec_le blank limit)
  where
    go : Dec (blank ≤ limit) → blank ≤ limit
    go (yes h) = h
    go (no h) = absurd (none-ne-some a (sym (nobody (omega arith)) ∙ e))

module _ (𝓓 : Model) where
  open 𝓓 use {member, most_doubt, wide}

  module _ (rate : ℕ) (columns : ℕ → List ℕ) where
    abbrev blanks : ℕ
    blanks = blanks_of (places 𝓓) columns

    module _ {limit blank : ℕ} {flags : List ℕ} (l : limit ≡ blank_limit member rate) (b : blank ≡ count (places 𝓓) (λ p. not (flag_at flags p)))
        (f : flags ≡ flags_of (places 𝓓) columns) where
      counted : blank ≡ blanks
      counted = b ∙ ap (λ (x : List ℕ). count (places 𝓓) (λ p. not (flag_at x p))) f ∙ flags-blanks (places 𝓓) columns

      pub told-near : blank ≤ limit → none_near ≡ unanswered_of 𝓓 rate columns
      unfolding unanswered_of
      told-near h = sym (ap (λ c. cond c none_near too_blank) (le-leb blanks (blank_limit member rate) (omega (arith, l, counted))))

      pub told-blank : limit < blank → too_blank ≡ unanswered_of 𝓓 rate columns
      unfolding unanswered_of
      told-blank h = sym (ap (λ c. cond c none_near too_blank) (lt-leb blanks (blank_limit member rate) (omega (arith, l, counted))))

  pub markable : (rate : ℕ) (costs m : List ℕ) {word flags : List ℕ} {far : ℕ} → word ≡ encode_of member rate m
      → flags ≡ changed_flags (places 𝓓) (column_of (width 𝓓) costs) word → far ≡ places 𝓓 - m_of member rate
      → Markable (places 𝓓) (width 𝓓) (column_of (width 𝓓) costs) word flags far
  markable rate costs m w f d =
      record {
        wide = λ p l. column-length (width 𝓓) costs p;
        symbol = λ p l. subst (λ v. symbol_at v p < width 𝓓) (sym w) (codeword-symbol member rate m p l);
        changed = f;
        few = omega (arith, d);
      }

  module _ (rate : ℕ) (columns : ℕ → List ℕ) (list : List ℕ) where
    abbrev pub Nobody : Type 0
    Nobody = blanks rate columns ≤ blank_limit member rate → answer_for 𝓓 rate columns list ≡ none

    pub record Somebody (m : List ℕ) (t : ℕ) (d : Option ℕ) (tests : ℕ) : Type 0 where
      pub few_blank : blanks rate columns ≤ blank_limit member rate
      pub answer : answer_for 𝓓 rate columns list ≡ some m
      pub total : t ≡ message_cost member rate columns m
      pub margin : d ≡ margin_for 𝓓 rate columns list m
      pub count : tests ≡ tests_for 𝓓 rate columns list

    pub answered-none : Nobody → (message report : List ℕ) {r : ℕ} → r ≡ unanswered_of 𝓓 rate columns
        → closed r message report ≡ decode_of 𝓓 rate columns list message report
    unfolding refused_closing unanswered_of
    answered-none nobody message report {r} u = go (dec_le (blanks rate columns) (blank_limit member rate))
      where
        go : Dec (blanks rate columns ≤ blank_limit member rate) → closed r message report ≡ decode_of 𝓓 rate columns list message report
        go (yes h) =
            ap (λ (n : ℕ). closed n message report) (u ∙ ap (λ b. cond b none_near too_blank) (le-leb (blanks rate columns) (blank_limit member rate) h))
            ∙ sym (decode-none 𝓓 rate columns list message report h (nobody h))
        go (no h) =
            ap (λ (n : ℕ). closed n message report)
            (u ∙ ap (λ b. cond b none_near too_blank) (lt-leb (blanks rate columns) (blank_limit member rate) (omega arith)))
            ∙ sym (decode-too-blank 𝓓 rate columns list message report (omega arith))

    module _ {m : List ℕ} {t : ℕ} {d : Option ℕ} {tests : ℕ} (S : Somebody m t d tests) where
      pub tests-few : length list ≤ most_doubt → tests ≤ 2 ^ most_doubt
      tests-few few = omega (arith, S.count, test-count-fits 𝓓 columns list few rate)

      module _ (message report : List ℕ) where
        abbrev word : List ℕ
        word = encode_of member rate m

        pub answered-near :
            closed accepted m
            (report_of wide t tests (pinned_of (places 𝓓) columns word) (changed_of (places 𝓓) columns word) d (bit (marked_of member rate columns m)))
            ≡ decode_of 𝓓 rate columns list message report
        unfolding report_for message_cost
        answered-near =
            let pinned = pinned_of (places 𝓓) columns word in
            let changed = changed_of (places 𝓓) columns word in
            let mark = bit (marked_of member rate columns m) in
            ap₂ (λ total tests. closed accepted m (report_of wide total tests pinned changed d mark)) S.total S.count
            ∙ ap (λ e. closed accepted m (report_of wide (message_cost member rate columns m) (tests_for 𝓓 rate columns list) pinned changed e mark)) S.margin
            ∙ sym (decode-some 𝓓 rate columns list message report S.few_blank S.answer)

        -- the same, step by step as a function goes: it copies its buffers, and asks for each part of the report
        pub decoded-near : (found : List ℕ) {pinned changed far mark : ℕ} {message' word flags bytes report' : List ℕ} → m ≡ take rate found
            → length message ≡ rate → rate ≤ length found → message' ≡ over found message → word ≡ encode_of member rate m
            → pinned ≡ pinned_of (places 𝓓) columns word → flags ≡ changed_flags (places 𝓓) columns word → changed ≡ count (places 𝓓) (flag_at flags)
            → far ≡ places 𝓓 - m_of member rate → mark ≡ bit (is_marked (places 𝓓) far columns word)
            → bytes ≡ report_of wide t tests pinned changed d mark → length report ≡ length bytes → report' ≡ over bytes report
            → closed accepted message' report' ≡ decode_of 𝓓 rate columns list message report
        unfolding marked_of
        decoded-near found {pinned} {changed} {far} {mark} {message'} {word} {flags} {bytes} {report'} front long room c w p fl q f mk b whole r =
            let n : changed ≡ changed_of (places 𝓓) columns word = q ∙ ap (λ f. count (places 𝓓) (flag_at f)) fl ∙ changed-flags (places 𝓓) columns word in
            let a : message' ≡ m = c ∙ over-short found message (omega arith) ∙ ap (λ n. take n found) long ∙ sym front in
            ap₂ (λ (x y : List ℕ). closed accepted x y) a
            (r ∙ over-same bytes report whole ∙ b
            ∙ ap₂ (λ (x y : ℕ). report_of wide t tests x y d mark) (p ∙ ap (pinned_of (places 𝓓) columns) w) (n ∙ ap (changed_of (places 𝓓) columns) w)
            ∙ ap (report_of wide t tests _ _ d) (mk ∙ ap₂ (λ n v. bit (is_marked (places 𝓓) n columns v)) f w))
            ∙ answered-near

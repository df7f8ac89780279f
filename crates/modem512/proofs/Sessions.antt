-- What a user of the modem of 512 places can rely on after every list of calls: what `calls` says of every modem, with this one's numbers.
--
--   few-doubtful-512     a doubtful list has 12 places at most, and no more than the genus: so no two codewords are near, at both rates, with every number of blank
--                        places that leaves a T
--   sure-512             so, if none is missing, the sent symbol is best or second at each doubtful place that is not blank, and best at all others that are not
--                        blank but T at most, closing gives the message sent, with its report, and there is no margin
--   never-512            if the message sent is alone (`book` Repairs Alone), closing gives it with its report, or says 'none near' and leaves the buffers as they were
--   refused-512          with no doubtful place and none blank, 84 to 112 wrong symbols at rate 289 and 24 to 52 at rate 409 are refused with 'none near'
--   shows-512            an accepted closing shows its numbers in the report's 16 bytes
--   marked-512           if byte 15 of the report is 1, no codeword of the rate costs less
--   table-512, below-512 table decoding of 65,536 bytes, by doubt and by threshold, answers as a session opened with the places it picks, whatever the order of
--                        its calls
--   alive-512            for every message there are an opening, 512 accepted deliveries and a closing that gives it
use Rattle.std.specs.Prelude.{◌≡◌, List, [], ℕ, ◌≤◌, length, get_or}
use Rattle.std.proofs.Common.{sym, ◌∙◌, subst, arith}
use Rattle.refusals.specs.Refusal.{accepted, none_near}
use Rattle.lists.specs.Words.{Word}
use Rattle.soft.specs.Blank.{open_at}
use Rattle.soft.specs.BlankLaws.{unblanked-length}
use Rattle.near.specs.Reach.{Reach}
use Rattle.near.specs.Rivals.{FewDoubtful, genus-few}
use Rattle.book.specs.Book.{new_book}
use Rattle.book.specs.opening.Opening.{open_of}
use Rattle.book.specs.opening.OpeningLaws.{Known, DoubtfulList}
use Rattle.book.specs.calls.Calls.{Answer, closing}
use Rattle.book.specs.closing.Report.{ReportedIn}
use Rattle.book.specs.sentences.Marked.{CheapestIn}
use Rattle.book.specs.sentences.Repairs.{FewWrong, not_best, Sure, Alone, Never, RefusedAs}
use Rattle.book.specs.tables.Table.{picked_of, table_of}
use Rattle.book.specs.tables.Below.{picked_below, table_below_of}
use Rattle.calls.specs.Keeping.{Keeping}
use Rattle.calls.specs.Promises.{Opening}
use Rattle.calls.specs.Follows.{closed_by}
use Rattle.calls.proofs.Repaired as repaired
use Rattle.calls.specs.Repaired.{Full, columns_after}
use Rattle.calls.proofs.Shown as shown
use Rattle.calls.proofs.Marked as marked
use Rattle.calls.proofs.Tabled as tabled
use Rattle.calls.specs.Tabled.{BringsTable}
use Rattle.calls.proofs.Alive as living
use Rattle.calls.specs.Alive.{Answered}
use Rattle.member64.specs.Member64.{m64}
use Rattle.modem512.specs.Ground.{genus-8}
use Rattle.modem512.specs.Model.{modem512, known-289, known-409, rates-512, report-512}
use Rattle.modem512.proofs.Model.{reach-512}
use Rattle.modem512.specs.Demand3.{Call, others512, after_all, blanks_after, ReachAfter, Step, Run}

-- ---- the doubtful places are few

pub few-doubtful-512 : (rate : ℕ) {list : List ℕ} → DoubtfulList modem512 list → (calls : List Call) {T : ℕ} → ReachAfter (new_book rate list) calls T
    → FewDoubtful m64 rate (columns_after others512 rate list calls) list T
unfolding new_book
few-doubtful-512 rate {list} d calls reach =
    genus-few m64 (columns_after others512 rate list calls) reach list
    (omega (arith, d.short, genus-8, unblanked-length (open_at (columns_after others512 rate list calls)) list))

module _ {S : Type 0} (K : Keeping S) where
  module _ {rate : ℕ} (known : Known modem512 rate) {n : ℕ} {s : S} {calls : List Call} {given : List Answer} {t : S} {message report : List ℕ}
      {a : Answer} {u : S} (step : Step K t (closing message report) a u) (long : length message ≡ rate) (whole_report : length report ≡ 16)
      (m : List ℕ) where
    pub sure-512 : {list : List ℕ} → DoubtfulList modem512 list → Opening modem512 K (open_of modem512 rate list) n s → Run K s calls given t
        → Full others512 rate list calls → {T : ℕ} → ReachAfter (new_book rate list) calls T
        → FewWrong modem512 rate (columns_after others512 rate list calls) list T m
        → Sure modem512 rate (columns_after others512 rate list calls) list m (closed_by a)
    sure-512 d opened run full reach few =
        repaired.run-sure others512 K known step long whole_report m d opened run full reach (few-doubtful-512 rate d calls reach) few

    pub never-512 : {list : List ℕ} → DoubtfulList modem512 list → Opening modem512 K (open_of modem512 rate list) n s → Run K s calls given t
        → Full others512 rate list calls → {T : ℕ} → ReachAfter (new_book rate list) calls T
        → Alone modem512 rate (columns_after others512 rate list calls) list T m
        → Never modem512 rate (columns_after others512 rate list calls) list m message report (closed_by a)
    never-512 d opened run full reach alone = repaired.run-never others512 K known step long whole_report m d opened run full reach alone

  module _ {n : ℕ} {s : S} {calls : List Call} {given : List Answer} {t : S} {message report : List ℕ} {a : Answer} {u : S}
      (step : Step K t (closing message report) a u) (whole_report : length report ≡ 16) (m : List ℕ) (run : Run K s calls given t) where
    pub refused-512 : (length message ≡ 289 → Opening modem512 K (open_of modem512 289 []) n s → Full others512 289 [] calls
        → blanks_after (new_book 289 []) calls ≡ 0 → Word 64 289 m
        → 84 ≤ not_best modem512 289 (columns_after others512 289 [] calls) m → not_best modem512 289 (columns_after others512 289 [] calls) m ≤ 112
        → RefusedAs modem512 none_near message report (closed_by a))
        × (length message ≡ 409 → Opening modem512 K (open_of modem512 409 []) n s → Full others512 409 [] calls
        → blanks_after (new_book 409 []) calls ≡ 0 → Word 64 409 m
        → 24 ≤ not_best modem512 409 (columns_after others512 409 [] calls) m → not_best modem512 409 (columns_after others512 409 [] calls) m ≤ 52
        → RefusedAs modem512 none_near message report (closed_by a))
    unfolding new_book
    refused-512 = (
      λ long opened full none word least most.
          repaired.run-refused others512 K known-289 step long whole_report m opened run full
          (subst (λ b. Reach m64 289 b 83) (sym none) reach-512.2)
          (record { word = word; far = least; alone = omega (arith, none, most, (rates-512 289 0 0).0) }),
      λ long opened full none word least most.
          repaired.run-refused others512 K known-409 step long whole_report m opened run full
          (subst (λ b. Reach m64 409 b 23) (sym none) reach-512.3)
          (record { word = word; far = least; alone = omega (arith, none, most, (rates-512 409 0 0).0) }),
    )

  -- ---- the report

  module _ (rate : ℕ) {list : List ℕ} {n : ℕ} {s : S} (known : Known modem512 rate) (d : DoubtfulList modem512 list)
      (opened : Opening modem512 K (open_of modem512 rate list) n s) {calls : List Call} {given : List Answer} {t : S} (run : Run K s calls given t)
      {message report : List ℕ} {a : Answer} {u : S} (step : Step K t (closing message report) a u) (taken : a.number ≡ accepted) where
    pub shows-512 : ReportedIn modem512 (after_all (new_book rate list) calls) (closed_by a)
    shows-512 = shown.opened-shows others512 K known d opened run step taken

    pub marked-512 : get_or a.second 15 0 ≡ 1 → CheapestIn modem512 (after_all (new_book rate list) calls) (closed_by a)
    marked-512 mark = marked.opened-marked others512 K known d opened run step taken ((report-512 a.second).4 ∙ mark)

  -- ---- tables

  module _ (rate : ℕ) (known : Known modem512 rate) (table : List ℕ) (whole : length table ≡ 65536) {n : ℕ} {s : S} where
    pub table-512 : (doubt : ℕ) → doubt ≤ 12 → Opening modem512 K (open_of modem512 rate (picked_of modem512 table doubt)) n s
        → {calls : List Call} {given : List Answer} {t : S} → Run K s calls given t → BringsTable modem512 table calls
        → {message report : List ℕ} {a : Answer} {u : S} → Step K t (closing message report) a u
        → closed_by a ≡ table_of modem512 rate table doubt message report
    table-512 doubt few opened run brings step = tabled.table-as-calls others512 K known table whole doubt few opened run brings step

    pub below-512 : (threshold most : ℕ) → 1 ≤ most → most ≤ 12 → Opening modem512 K (open_of modem512 rate (picked_below modem512 table threshold most)) n s
        → {calls : List Call} {given : List Answer} {t : S} → Run K s calls given t → BringsTable modem512 table calls
        → {message report : List ℕ} {a : Answer} {u : S} → Step K t (closing message report) a u
        → closed_by a ≡ table_below_of modem512 rate table threshold most message report
    below-512 threshold most room few opened run brings step =
        tabled.below-as-calls others512 K known table whole threshold most few opened room run brings step

  -- ---- there are such sessions

  pub alive-512 : {rate : ℕ} → Known modem512 rate → {m : List ℕ} → Word 64 rate m → (message report : List ℕ) → length message ≡ rate
      → length report ≡ 16 → (x : Answered others512 K rate m message report) × (length x.calls ≡ 512)
  alive-512 known word message report long whole_report =
      let x = living.alive others512 K known word message report long whole_report in
      (x, x.many)

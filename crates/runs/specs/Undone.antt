-- 'A delivery shall be undone: the named place becomes free again, its costs return to zero, and the session answers and reads as if that delivery, and every
-- call refused since, had never been made. It need not be the latest one.' (`calls` Undone, of the modem of 64 places.)
--
--   step-frees           an accepted withdrawal leaves the place free, and its costs zero
--   undone               after a delivery that is accepted, calls that spare its place and the withdrawal of that place, the session is the one that those of
--                        the calls that were accepted leave by themselves
--   undone-brought       also if the delivery was one of a capture's records, which count as delivered at its opening: then it is the session that an opening
--                        without them and the other calls leave
--   as-if                there is such a run without it, where the columns that are delivered are columns
--   undone-later         so all that is called from there on is answered alike, and leaves the same session
use Rattle.std.specs.Prelude.{false, ◌≡◌, List, [], ◌∷◌, ◌++◌, ℕ, get_or, replicate}
use Rattle.refusals.specs.Refusal.{accepted}
use Rattle.lists.specs.Block.{block}
use Rattle.book.specs.Book.{Book}
use Rattle.book.specs.calls.Calls.{Answer}
use Rattle.book64.specs.calls.Calls.{Call, deliver, withdraw}
use Rattle.book64.proofs.calls.Calls.{others64, answer, after, after_all}
use Rattle.book64.specs.calls.CallLaws.{AllFit}
use Rattle.book64.specs.calls.Undone.{Spares}
use Rattle.book64.proofs.calls.Undone.{accepted_of}
use Rattle.book64.specs.Here.{width}
use Rattle.calls.proofs.Undone as any
use Rattle.session.specs.declared.Session.{Session}
use Rattle.session.specs.View.{keeping, Good}
use Rattle.runs.specs.Step.{Step}
use Rattle.runs.specs.Runs.{Run}
use Rattle.runs.specs.Follows.{Start, start-stands}

pub step-frees : {s t : Session} {p : ℕ} {a : Answer} → Good s → Step s (withdraw p) a t → a.number ≡ accepted
    → (get_or t.taken p false ≡ false) × (block width p t.costs ≡ replicate width 0)
step-frees good step n = any.step-frees others64 keeping good step n

-- the calls that count as made with an opening, as the deliveries of a capture's records, are `brought`; `plain` is an opening without them
module _ {book : Book} {s v t u : Session} {calls : List Call} {given other : List Answer} (plain : Start book v) (brought : List Call)
    (start : Start (after_all book brought) s) (made before : List Call) (p : ℕ) (column : List ℕ)
    (all : brought ++ made ≡ before ++ (deliver p column ∷ calls)) (n : (answer (after_all book before) (deliver p column)).number ≡ accepted)
    (spares : Spares p calls) (run : Run s (made ++ (withdraw p ∷ [])) given t)
    (without : Run v (before ++ accepted_of (after (after_all book before) (deliver p column)) calls) other u) where
  pub undone-brought : t ≡ u
  undone-brought =
      any.undone-brought others64 keeping (start-stands plain) brought (start-stands start) made before p column all n spares run without

module _ {book : Book} {s t u : Session} {calls : List Call} {given other : List Answer} (start : Start book s) (before : List Call) (p : ℕ)
    (column : List ℕ) (n : (answer (after_all book before) (deliver p column)).number ≡ accepted) (spares : Spares p calls)
    (run : Run s (before ++ (deliver p column ∷ (calls ++ (withdraw p ∷ [])))) given t)
    (without : Run s (before ++ accepted_of (after (after_all book before) (deliver p column)) calls) other u) where
  pub undone : t ≡ u
  undone = any.undone others64 keeping (start-stands start) before p column n spares run without

  pub undone-later : {later : List Call} {first second : List Answer} {v w : Session} → Run t later first v → Run u later second w
      → (first ≡ second) × (v ≡ w)
  undone-later a b = any.undone-later others64 keeping (start-stands start) before p column n spares run without a b

pub as-if : {book : Book} {s : Session} → Start book s → {before calls : List Call} → AllFit before → AllFit calls → (p : ℕ) (column : List ℕ)
    → (given : List Answer) × (u : Session) × Run s (before ++ accepted_of (after (after_all book before) (deliver p column)) calls) given u
as-if start fits fit p column = any.as-if others64 keeping (start-stands start) fits fit p column

-- 'Two sessions so reached that agree in rate, doubtful list, places taken and the columns held for these read and close alike', and, of document 02, 'then
-- write alike, in whichever order their places arrived'. (`calls` Alike, of the modem of 64 places.)
--
--   Reached t            the session t is left by a list of calls from a session that an accepted opening returned
--   SameHeld s t         they agree in rate, doubtful list, places taken and the columns held for these
--   Alike s t            they read, write and close alike: the same lent buffers get the same numbers and bytes from either
--   held_one             two sessions so reached that hold the same are equal
--   alike                so do two sessions so reached that hold the same
use Rattle.std.specs.Prelude.{true, false, ◌≡◌, List, ℕ, ◌<◌, take, get_or}
use Rattle.lists.specs.Block.{block}
use Rattle.book64.specs.Modem64.{modem64}
use Rattle.book.specs.Book.{Book}
use Rattle.book.specs.calls.Calls.{Answer}
use Rattle.book64.specs.calls.Calls.{Call, reading, writing, closing}
use Rattle.book64.proofs.calls.Calls.{others64}
use Rattle.book64.specs.Here.{places, width}
use Rattle.calls.specs.Alike as any
use Rattle.session.specs.declared.Session.{Session}
use Rattle.session.specs.View.{keeping}
use Rattle.runs.specs.Step.{Step}
use Rattle.runs.specs.Runs.{Run}
use Rattle.runs.specs.Follows.{Start, start-stands}

pub data Reached (t : Session) : Type 0 where
  reached : {book : Book} {s : Session} {calls : List Call} {given : List Answer} → Start book s → Run s calls given t → Reached t

pub record SameHeld (s t : Session) : Type 0 where
  pub same_rate : s.rate ≡ t.rate
  pub same_list : take s.doubt s.doubtful ≡ take t.doubt t.doubtful
  pub same_taken : (p : ℕ) → p < places → get_or s.taken p false ≡ get_or t.taken p false
  pub same_columns : (p : ℕ) → p < places → get_or s.taken p false ≡ true → block width p s.costs ≡ block width p t.costs

abbrev Same : Session → Session → Type 0
Same s t = any.SameHeld modem64 keeping s t

same-held : {s t : Session} → SameHeld s t → Same s t
same-held same =
    record {
      same_rate = same.same_rate;
      same_list = same.same_list;
      same_taken = same.same_taken;
      same_columns = same.same_columns;
    }

reached-any : {t : Session} → Reached t → any.Reached others64 keeping t
reached-any (reached start run) = any.reached (start-stands start) run

pub record Alike (s t : Session) : Type 0 where
  pub read_alike : {out : List ℕ} {a b : Answer} {u v : Session} → Step s (reading out) a u → Step t (reading out) b v → a ≡ b
  pub write_alike : {out : List ℕ} {a b : Answer} {u v : Session} → Step s (writing out) a u → Step t (writing out) b v → a ≡ b
  pub close_alike : {message report : List ℕ} {a b : Answer} {u v : Session} → Step s (closing message report) a u
      → Step t (closing message report) b v → a ≡ b

pub held_one : {s t : Session} → Reached s → Reached t → SameHeld s t → s ≡ t
held_one x y same = any.held_one others64 keeping (reached-any x) (reached-any y) (same-held same)

pub alike : {s t : Session} → Reached s → Reached t → SameHeld s t → Alike s t
alike x y same =
    let both = any.alike others64 keeping (reached-any x) (reached-any y) (same-held same) in
    record {
      read_alike = λ a b. both.ask_alike a b;
      write_alike = λ a b. both.ask_alike a b;
      close_alike = λ a b. both.close_alike a b;
    }

-- What a session stands for: the book that its fields hold, and which sessions hold one.
--
--   new_session rate list a newly opened session: the doubtful list in twelve numbers, 1,024 costs of zero and no place taken
--   with_place s p flag column   the session with the flag of a place and its column; all else is as it was
--   held s               the session's fields; keeping: the struct keeps these and nothing else (`calls` Keeping)
--   entry_at costs p      a place and its column in the table
--   all_taken flags       the flags of all 64 places are set
--   book_of s             the session's rate, its doubtful list, and the places taken with their columns, rising: of the order of arrival nothing is held
--   Good s               what holds of every session from opening: a count within its array, a known rate, a fit list, and zeros wherever nothing is
--                        held (Held)
use Rattle.std.specs.Prelude.{Bool, false, refl, List, ℕ, ◌*◌, length, replicate, set}
use Rattle.lists.specs.Block.{put_block}
use Rattle.lists.specs.Padded.{padded}
use Rattle.soft.specs.Doubt.{most_doubt}
use Rattle.book64.specs.Modem64.{modem64}
use Rattle.book.specs.Book.{Entry, Book}
use Rattle.book64.specs.Here.{places, width}
use Rattle.session.specs.declared.Session.{Session}
use Rattle.calls.specs.Held as Fields
use Rattle.calls.specs.Held.{Held}
use Rattle.calls.specs.Keeping.{Keeping}

unfoldable pub new_session : ℕ → List ℕ → Session
new_session rate list =
    record {
      rate = rate;
      doubt = length list;
      doubtful = padded most_doubt list;
      taken = replicate places false;
      costs = replicate (places * width) 0;
    }

unfoldable pub with_place : Session → ℕ → Bool → List ℕ → Session
with_place s p flag column =
    record {
      rate = s.rate;
      doubt = s.doubt;
      doubtful = s.doubtful;
      taken = set s.taken p flag;
      costs = put_block width p column s.costs;
    }

-- the session's fields
abbrev pub held : Session → Held
held s = record { rate = s.rate; doubt = s.doubt; doubtful = s.doubtful; taken = s.taken; costs = s.costs }

abbrev pub entry_at : List ℕ → ℕ → Entry
entry_at costs p = Fields.entry_at modem64 costs p

abbrev pub all_taken : List Bool → Bool
all_taken flags = Fields.all_taken modem64 flags

abbrev pub keeping : Keeping Session
keeping =
    record {
      held = held;
      made = λ h. record { rate = h.rate; doubt = h.doubt; doubtful = h.doubtful; taken = h.taken; costs = h.costs };
      held_made = λ h. refl;
      made_held = λ s. refl;
    }

abbrev pub book_of : Session → Book
book_of s = Fields.book_of modem64 (held s)

abbrev pub Good : Session → Type 0
Good s = Fields.Good modem64 (held s)

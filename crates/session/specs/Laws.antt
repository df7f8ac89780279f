-- What follows of sessions: opening, delivery and withdrawal answer as the book does, case by case, and leave a good session; a good session's book is proper,
-- and no other good session has one that agrees with it. It follows of every modem's (`calls` HeldLaws, PromiseLaws); what is left here is the struct's own.
--
--   row-wide             the places below a bound, each with its column in the table: each column has sixteen costs
--   book-taken           a place is taken exactly if its flag is set
--   list_length          the doubtful list of its book has as many places as the session says
--   good-proper          the book of a good session is proper
--   with_column s p column    the session with a place and its column
--   delivery-above, delivery-taken, delivery-accepted   the three cases of delivery
--   without_column s p    the session with the flag of a place not set, and zeros for its column
--   withdrawal-above, withdrawal-free, withdrawal-accepted   the three cases of a withdrawal
--   opening-as           an opening that ends as another does
--   refused-opens        what a refused opening hands back
--   opened-rate, opened-list, opened-new, opens   opening answers as the book does, and gives a good session
--   opened-refused       an opening that is not accepted ends as a refused one of its number does
--   one-session          two good sessions whose books agree are one
use Rattle.std.specs.Prelude.{Bool, true, false, ◌≡◌, List, ℕ, ◌*◌, ◌<◌, ◌≤◌, length, get_or, set, replicate}
use Rattle.std.proofs.Math.Path.{refl}
use Rattle.std.proofs.Common.{sym, ap, subst}
use Rattle.refusals.specs.Refusal.{accepted, unknown_rate, wrong_doubt, no_place, place_taken, not_taken}
use Rattle.lists.specs.Listed.{listed}
use Rattle.lists.specs.Block.{put_block}
use Rattle.code.specs.Encoding.{known_rate}
use Rattle.book64.specs.Modem64.{modem64}
use Rattle.book.specs.Book.{Outcome, taken}
use Rattle.book.specs.Columns.{Agree}
use Rattle.book64.specs.Here.{places, width, fit_doubt, refused_opening, open_of, wide, Proper}
use Rattle.session.specs.declared.Session.{Session}
use Rattle.session.specs.View.{new_session, held, keeping, entry_at, book_of, Good}
use Rattle.session.specs.Calls.{Ending, refused_with, opened_of, declined_with, Opening, Delivery, Withdrawal}
use Rattle.calls.specs.Held as Fields
use Rattle.calls.specs.HeldLaws as laws
use Rattle.calls.specs.Keeping as kept
use Rattle.calls.specs.PromiseLaws as cases

-- ---- what a session is good for, by its fields

pub row-wide : (costs : List ℕ) (n : ℕ) → length costs ≡ places * width → n ≤ places → wide (listed n (entry_at costs)) ≡ true
row-wide = laws.row-wide modem64

module _ (s : Session) (good : Good s) where
  pub book-taken : (p : ℕ) → taken (book_of s).row p ≡ get_or s.taken p false
  book-taken = laws.book-taken modem64 (held s) good

  pub list_length : length (book_of s).doubtful ≡ s.doubt
  list_length = laws.list_length modem64 (held s) good

  pub good-proper : Proper (book_of s)
  good-proper = laws.good-proper modem64 (held s) good

-- ---- delivery

unfoldable pub with_column : Session → ℕ → List ℕ → Session
with_column s p column =
    record {
      rate = s.rate;
      doubt = s.doubt;
      doubtful = s.doubtful;
      taken = set s.taken p true;
      costs = put_block width p column s.costs;
    }

module _ (s : Session) (p : ℕ) (column : List ℕ) where
  pub delivery-above : places ≤ p → Delivery s p column (declined_with no_place s)
  unfolding declined_with
  delivery-above = cases.delivery-above modem64 keeping s p column

  pub delivery-taken : p < places → get_or s.taken p false ≡ true → Delivery s p column (declined_with place_taken s)
  unfolding declined_with
  delivery-taken = cases.delivery-taken modem64 keeping s p column

  pub delivery-accepted : p < places → get_or s.taken p false ≡ false → length column ≡ width
      → Delivery s p column (record { refusal = accepted; session = with_column s p column })
  unfolding with_column Fields.with_column
  delivery-accepted h free long = cases.delivery-accepted modem64 keeping s p column h free long refl

-- ---- withdrawal

unfoldable pub without_column : Session → ℕ → Session
without_column s p =
    record {
      rate = s.rate;
      doubt = s.doubt;
      doubtful = s.doubtful;
      taken = set s.taken p false;
      costs = put_block width p (replicate width 0) s.costs;
    }

module _ (s : Session) (p : ℕ) where
  pub withdrawal-above : places ≤ p → Withdrawal s p (declined_with no_place s)
  unfolding declined_with
  withdrawal-above = cases.withdrawal-above modem64 keeping s p

  pub withdrawal-free : p < places → get_or s.taken p false ≡ false → Withdrawal s p (declined_with not_taken s)
  unfolding declined_with
  withdrawal-free = cases.withdrawal-free modem64 keeping s p

  pub withdrawal-accepted : p < places → get_or s.taken p false ≡ true → {left : Session} → left ≡ without_column s p
      → Withdrawal s p (record { refusal = accepted; session = left })
  unfolding without_column Fields.without_column
  withdrawal-accepted h there e = cases.withdrawal-accepted modem64 keeping s p h there (ap (λ (x : Session). held x) e)

-- ---- opening

pub opening-as : {o : Outcome} {q r : Ending} → q ≡ r → Opening o r → Opening o q
opening-as {o} e d = subst (λ (x : Ending). Opening o x) (sym e) d

pub refused-opens : (n : ℕ) → Opening (refused_opening n) (refused_with n)
unfolding refused_with new_session Fields.new_held
refused-opens n = cases.refused-opens modem64 keeping n refl

module _ (rate : ℕ) (list : List ℕ) where
  pub opened-rate : known_rate rate ≡ false → opened_of rate list ≡ refused_with unknown_rate
  unfolding opened_of
  opened-rate r = rw r

  pub opened-list : known_rate rate ≡ true → fit_doubt list ≡ false → opened_of rate list ≡ refused_with wrong_doubt
  unfolding opened_of
  opened-list r f = rw (r, f)

  pub opened-new : known_rate rate ≡ true → fit_doubt list ≡ true
      → opened_of rate list ≡ record { refusal = accepted; session = new_session rate list }
  unfolding opened_of
  opened-new r f = rw (r, f)

  pub opened-refused : ((opened_of rate list).refusal ≡ accepted → ⊥) → refused_with (opened_of rate list).refusal ≡ opened_of rate list
  unfolding refused_with
  opened-refused n = go (known_rate rate) refl (fit_doubt list) refl
    where
      Whole : Ending → Type 0
      Whole o = refused_with o.refusal ≡ o

      go : (a : Bool) → known_rate rate ≡ a → (b : Bool) → fit_doubt list ≡ b → Whole (opened_of rate list)
      go false r b f = subst Whole (sym (opened-rate r)) refl
      go true r false f = subst Whole (sym (opened-list r f)) refl
      go true r true f = absurd (n (ap (λ (o : Ending). o.refusal) (opened-new r f)))

  by-rate : known_rate rate ≡ false → Opening (open_of rate list) (refused_with unknown_rate)
  unfolding refused_with new_session Fields.new_held
  by-rate r = cases.opens-rate modem64 keeping rate list r refl

  by-list : known_rate rate ≡ true → fit_doubt list ≡ false → Opening (open_of rate list) (refused_with wrong_doubt)
  unfolding refused_with new_session Fields.new_held
  by-list r f = cases.opens-list modem64 keeping rate list r f refl

  by-new : known_rate rate ≡ true → fit_doubt list ≡ true → Opening (open_of rate list) (record { refusal = accepted; session = new_session rate list })
  unfolding new_session Fields.new_held
  by-new r f = cases.opens-new modem64 keeping rate list r f refl

  pub opens : Opening (open_of rate list) (opened_of rate list)
  opens = go (known_rate rate) refl (fit_doubt list) refl
    where
      go : (a : Bool) → known_rate rate ≡ a → (b : Bool) → fit_doubt list ≡ b → Opening (open_of rate list) (opened_of rate list)
      go false r b f = rw (opened-rate r) (by-rate r)
      go true r false f = rw (opened-list r f) (by-list r f)
      go true r true f = rw (opened-new r f) (by-new r f)

-- ---- books that agree

pub one-session : (s t : Session) → Good s → Good t → Agree (book_of s) (book_of t) → s ≡ t
one-session = kept.one-session modem64 keeping

-- 'Two sessions so reached that agree in rate, doubtful list, places taken and the columns held for these read and close alike'. Of every modem: all its
-- calls that leave the session as it was.
--
--   Reached t            the session t is left by a list of calls from a session that stands for a book; reached-good: such a session is good
--   SameHeld s t         they agree in rate, doubtful list, places taken and the columns held for these
--   held-agree           so their books agree
--   Alike s t            they close alike, and answer the modem's other calls alike: the same lent buffers get the same numbers and bytes from either
--   held_one             two sessions so reached that hold the same are equal
--   alike                so they are alike
use Rattle.std.specs.Prelude.{Bool, ◌≡◌, refl, List, ℕ, ◌<◌, take}
use Rattle.std.proofs.Math.Bool.{true, false}
use Rattle.std.proofs.Math.Path.{sym, ap}
use Rattle.std.proofs.Common.{◌∙◌, arith}
use Rattle.std.proofs.Math.Option.{some, none}
use Rattle.std.proofs.Math.Decide.{dec_lt}
use Rattle.std.proofs.Math.ListN.{get_or}
use Rattle.lists.specs.Block.{block}
use Rattle.book.specs.Model.{Model, places, width}
use Rattle.book.specs.Book.{Book, column_in}
use Rattle.book.specs.Columns.{column-free, Agree}
use Rattle.book.specs.rows.RowLaws.{none_above}
use Rattle.book.specs.calls.Calls.{Answer, Call, closing, other, Others}
use Rattle.book.proofs.calls.CallLaws.{answer-alike}
use Rattle.calls.specs.Held as Fields
use Rattle.calls.specs.Keeping.{Keeping, book_of, Good, book-taken, column-there, good-proper, one-session}
use Rattle.calls.specs.Step.{Step}
use Rattle.calls.specs.Runs.{Run, run-good}
use Rattle.calls.specs.Follows.{Stands}

module _ (𝓓 : Model) {S : Type 0} (K : Keeping S) where
  pub record SameHeld (s t : S) : Type 0 where
    pub same_rate : (K.held s).rate ≡ (K.held t).rate
    pub same_list : take (K.held s).doubt (K.held s).doubtful ≡ take (K.held t).doubt (K.held t).doubtful
    pub same_taken : (p : ℕ) → p < places 𝓓 → get_or (K.held s).taken p false ≡ get_or (K.held t).taken p false
    pub same_columns : (p : ℕ) → p < places 𝓓 → get_or (K.held s).taken p false ≡ true
        → block (width 𝓓) p (K.held s).costs ≡ block (width 𝓓) p (K.held t).costs

  free : (s : S) → Good 𝓓 K s → (p : ℕ) → get_or (K.held s).taken p false ≡ false → column_in (book_of 𝓓 K s).row p ≡ none
  free s good p e = column-free (book_of 𝓓 K s).row p (book-taken 𝓓 K s good p ∙ e)

  pub held-agree : {s t : S} → Good 𝓓 K s → Good 𝓓 K t → SameHeld s t → Agree (book_of 𝓓 K s) (book_of 𝓓 K t)
  unfolding Fields.book_of
  held-agree {s} {t} a b same =
      record {
        same_rate = same.same_rate;
        same_list = same.same_list;
        same_columns = λ p. go p (dec_lt p (places 𝓓)) (get_or (K.held s).taken p false) refl;
      }
    where
      go : (p : ℕ) → Dec (p < places 𝓓) → (x : Bool) → get_or (K.held s).taken p false ≡ x
          → column_in (book_of 𝓓 K s).row p ≡ column_in (book_of 𝓓 K t).row p
      go p (yes h) true e =
          column-there 𝓓 K s a p e ∙ ap some (same.same_columns p h e) ∙ sym (column-there 𝓓 K t b p (sym (same.same_taken p h) ∙ e))
      go p (yes h) false e = free s a p e ∙ sym (free t b p (sym (same.same_taken p h) ∙ e))
      go p (no h) x e =
          none_above 𝓓 (book_of 𝓓 K s) (good-proper 𝓓 K s a) p (omega arith)
          ∙ sym (none_above 𝓓 (book_of 𝓓 K t) (good-proper 𝓓 K t b) p (omega arith))

module _ {𝓓 : Model} {X S : Type 0} (others : Others 𝓓 X) (K : Keeping S) where
  pub data Reached (t : S) : Type 0 where
    reached : {book : Book} {s : S} {calls : List (Call X)} {given : List Answer} → Stands 𝓓 K book s → Run others K s calls given t → Reached t

  pub reached-good : {t : S} → Reached t → Good 𝓓 K t
  reached-good (reached start run) = run-good others K run start.good

  pub record Alike (s t : S) : Type 0 where
    pub close_alike : {message report : List ℕ} {a b : Answer} {u v : S} → Step others K s (closing message report) a u
        → Step others K t (closing message report) b v → a ≡ b
    pub ask_alike : {x : X} {a b : Answer} {u v : S} → Step others K s (other x) a u → Step others K t (other x) b v → a ≡ b

  good-alike : {s t : S} → Good 𝓓 K s → Good 𝓓 K t → Agree (book_of 𝓓 K s) (book_of 𝓓 K t) → Alike s t
  good-alike a b same =
      record {
        close_alike = λ {message} {report} x y. x.answered a ∙ answer-alike others same (closing message report) ∙ sym (y.answered b);
        ask_alike = λ {x} y z. y.answered a ∙ answer-alike others same (other x) ∙ sym (z.answered b);
      }

  pub held_one : {s t : S} → Reached s → Reached t → SameHeld 𝓓 K s t → s ≡ t
  held_one {s} {t} x y same =
      one-session 𝓓 K s t (reached-good x) (reached-good y) (held-agree 𝓓 K (reached-good x) (reached-good y) same)

  pub alike : {s t : S} → Reached s → Reached t → SameHeld 𝓓 K s t → Alike s t
  alike x y same = good-alike (reached-good x) (reached-good y) (held-agree 𝓓 K (reached-good x) (reached-good y) same)

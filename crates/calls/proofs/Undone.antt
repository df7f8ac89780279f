-- 'A delivery shall be undone: the named place becomes free again, its costs return to zero, and the session answers and reads as if that delivery, and every
-- call refused since, had never been made. It need not be the latest one.' (`book` Undone, of the sessions of every modem.)
--
--   step-frees           an accepted withdrawal leaves the place free, and its costs zero
--   undone               after a delivery that is accepted, calls that spare its place and the withdrawal of that place, the session is the one that those of
--                        the calls that were accepted leave by themselves
--   undone-brought       also if the delivery was one of those that count as made at an opening, as the records of a capture: then it is the session that an
--                        opening without them and the other calls leave
--   as-if                there is such a run without it, where the columns that are delivered are columns
--   undone-later         so all that is called from there on is answered alike, and leaves the same session
use Rattle.std.specs.Prelude.{false, ◌≡◌, ℕ, get_or, replicate}
use Rattle.std.proofs.Math.Path.{refl}
use Rattle.std.proofs.Common.{sym, ap, ◌∙◌, subst}
use mathlib.Core.List.{List, [], ◌∷◌, ◌++◌, append_assoc}
use Rattle.refusals.specs.Refusal.{accepted}
use Rattle.lists.specs.Block.{block}
use Rattle.book.specs.Model.{Model, width}
use Rattle.book.specs.Book.{Book}
use Rattle.book.specs.Columns.{agree-sym, agree_trans, agree-path}
use Rattle.book.specs.Machine.{after_by}
use Rattle.book.proofs.Machine.{after-append, each_append, accepted-each}
use Rattle.book.specs.calls.Calls.{Answer, Call, deliver, withdraw, Others, answer, after, after_all}
use Rattle.book.specs.calls.CallLaws.{AllFit}
use Rattle.book.specs.calls.Undone.{Spares, accepts, accepted_of}
use Rattle.book.proofs.calls.Undone.{undone-calls}
use Rattle.calls.specs.Keeping.{Keeping, book_of, Good, one-session}
use Rattle.calls.specs.PromiseLaws.{withdrawn-cleared}
use Rattle.calls.specs.Step.{Step}
use Rattle.calls.specs.Runs.{Run, every-run, one_end}
use Rattle.calls.specs.Follows.{Stands}
use Rattle.calls.proofs.Follows.{stands-follows}

module _ {𝓓 : Model} {X S : Type 0} (others : Others 𝓓 X) (K : Keeping S) where
  pub step-frees : {s t : S} {p : ℕ} {a : Answer} → Good 𝓓 K s → Step others K s (withdraw p) a t → a.number ≡ accepted
      → (get_or (K.held t).taken p false ≡ false) × (block (width 𝓓) p (K.held t).costs ≡ replicate (width 𝓓) 0)
  unfolding answer after
  step-frees {s} {t} {p} good step n =
      withdrawn-cleared 𝓓 K t p (book_of 𝓓 K s) (step.good good) (step.book good)
      (sym (ap (λ (x : Answer). x.number) (step.answered good)) ∙ n)

  -- the calls that count as made with an opening, as the deliveries of a capture's records, are `brought`; `plain` is an opening without them
  module _ {book : Book} {s v t u : S} {calls : List (Call X)} {given other : List Answer} (plain : Stands 𝓓 K book v) (brought : List (Call X))
      (start : Stands 𝓓 K (after_all others book brought) s) (made before : List (Call X)) (p : ℕ) (column : List ℕ)
      (all : brought ++ made ≡ before ++ (deliver p column ∷ calls))
      (n : (answer others (after_all others book before) (deliver p column)).number ≡ accepted)
      (spares : Spares p calls) (run : Run others K s (made ++ (withdraw p ∷ [])) given t)
      (without : Run others K v (before ++ accepted_of others (after others (after_all others book before) (deliver p column)) calls) other u) where
    pub undone-brought : t ≡ u
    undone-brought =
        let f = (stands-follows 𝓓 K others start).left run in
        let g = (stands-follows 𝓓 K others plain).left without in
        let b : Book = after_all others book before in
        let last : List (Call X) = withdraw p ∷ [] in
        let same : after_all others (after_all others book brought) (made ++ last)
        ≡ after_all others book (before ++ accepted_of others (after others b (deliver p column)) calls) =
        sym (after-append (after others) book brought (made ++ last))
        ∙ ap (after_all others book) (sym (append_assoc brought made last) ∙ ap (λ l. l ++ last) all ∙ append_assoc before (deliver p column ∷ calls) last)
        ∙ after-append (after others) book before (deliver p column ∷ (calls ++ last)) ∙ (undone-calls others b p column n spares).1
        ∙ sym (after-append (after others) book before (accepted_of others (after others b (deliver p column)) calls)) in
        one-session 𝓓 K t u f.0 g.0 (agree_trans f.1 (agree_trans (agree-path same) (agree-sym g.1)))

  module _ {book : Book} {s t u : S} {calls : List (Call X)} {given other : List Answer} (start : Stands 𝓓 K book s) (before : List (Call X)) (p : ℕ)
      (column : List ℕ) (n : (answer others (after_all others book before) (deliver p column)).number ≡ accepted) (spares : Spares p calls)
      (run : Run others K s (before ++ (deliver p column ∷ (calls ++ (withdraw p ∷ [])))) given t)
      (without : Run others K s (before ++ accepted_of others (after others (after_all others book before) (deliver p column)) calls) other u) where
    pub undone : t ≡ u
    unfolding after_by
    undone =
        undone-brought start [] start (before ++ (deliver p column ∷ calls)) before p column refl n spares
        (subst (λ l. Run others K s l given t) (sym (append_assoc before (deliver p column ∷ calls) (withdraw p ∷ []))) run) without

    pub undone-later : {later : List (Call X)} {first second : List Answer} {v w : S} → Run others K t later first v → Run others K u later second w
        → (first ≡ second) × (v ≡ w)
    undone-later {later} {first} {second} {v} {w} a b =
        let good : Good 𝓓 K t = ((stands-follows 𝓓 K others start).left run).0 in
        let c : Run others K t later second w = subst (λ x. Run others K x later second w) (sym undone) b in
        (every-run others K a good ∙ sym (every-run others K c good), one_end others K good a c)

  pub as-if : {book : Book} {s : S} → Stands 𝓓 K book s → {before calls : List (Call X)} → AllFit 𝓓 before → AllFit 𝓓 calls → (p : ℕ) (column : List ℕ)
      → (given : List Answer) × (u : S)
      × Run others K s (before ++ accepted_of others (after others (after_all others book before) (deliver p column)) calls) given u
  as-if {book = book} start {before} fits fit p column =
      (stands-follows 𝓓 K others start).not_empty
      (each_append fits (accepted-each (accepts others) (after others) fit (after others (after_all others book before) (deliver p column))))

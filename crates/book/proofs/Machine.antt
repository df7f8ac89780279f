-- Machines: lists of calls on sessions of any kind, beside a book of any kind that says what each call answers.
--
--   carried              what each call carries over, of a book and the calls to come, holds after the last one, with no calls to come
--   part_held            a part of the book that no call changes is as it was
--   after-append         the book after one list of calls and another
--   left_out             where every accepted call keeps what the book has, and does the same to the book without it, then a list of calls does to the book,
--                        but for that, what its accepted calls alone do to the book without it
--   answers-same, after_same   so they answer every list of calls alike, and are the same after it
--   every-run            if every step from a good session is so, then every run is, with its lists of calls and of answers
--   one_end              so the calls determine the session left, if its book, up to Same, determines a good session
--   some_run             and if every fitting call has a step from every good session, then every list of them has a run
use Rattle.std.specs.Prelude.{Bool, cond, ◌≡◌}
use Rattle.std.proofs.Math.Bool.{true, false}
use Rattle.std.proofs.Math.Path.{refl, ap₂}
use Rattle.std.proofs.Common.{sym, ap, ◌∙◌, subst}
use mathlib.Core.List.{List, [], ◌∷◌, ◌++◌}
use Rattle.book.specs.Machine.{answers_by, after_by, Each, fit_nil, fit_cons, accepted_by, Run, done, next, Likeness, AsBook}

module _ {B C : Type 0} (after : B → C → B) where
  pub carried : (P : B → List C → Type 0) → ((book : B) (call : C) (calls : List C) → P book (call ∷ calls) → P (after book call) calls)
      → (book : B) (calls : List C) → P book calls → P (after_by after book calls) []
  unfolding after_by
  carried P turn book [] p = p
  carried P turn book (call ∷ calls) p = carried P turn (after book call) calls (turn book call calls p)

  pub part_held : {X : Type 0} (part : B → X) → ((book : B) (call : C) → part (after book call) ≡ part book)
      → (book : B) (calls : List C) → part (after_by after book calls) ≡ part book
  part_held part held book calls = carried (λ b l. part b ≡ part book) (λ b call l e. held b call ∙ e) book calls refl

  pub after-append : (book : B) (calls more : List C) → after_by after book (calls ++ more) ≡ after_by after (after_by after book calls) more
  unfolding after_by
  after-append book [] more = refl
  after-append book (call ∷ calls) more = after-append (after book call) calls more

pub each_append : {C : Type 0} {Fits : C → Type 0} {a b : List C} → Each Fits a → Each Fits b → Each Fits (a ++ b)
each_append fit_nil y = y
each_append (fit_cons fits x) y = fit_cons fits (each_append x y)

-- ---- leaving calls out

module _ {B C : Type 0} (accepts : B → C → Bool) (after : B → C → B) where
  -- what fits of all calls fits of those that are accepted
  pub accepted-each : {Fits : C → Type 0} {calls : List C} → Each Fits calls → (book : B) → Each Fits (accepted_by accepts after book calls)
  unfolding accepted_by
  accepted-each fit_nil book = fit_nil
  accepted-each {Fits = Fits} (fit_cons {call = call} {calls = calls} fits fit) book = go (accepts book call) (accepted-each fit (after book call))
    where
      go : (b : Bool) → Each Fits (accepted_by accepts after (after book call) calls)
          → Each Fits (cond b (call ∷ accepted_by accepts after (after book call) calls) (accepted_by accepts after (after book call) calls))
      go true rest = fit_cons fits rest
      go false rest = rest

  -- `without` takes out of a book what it Has; a call that Spares it leaves it there
  module _ (refused : (book : B) (call : C) → accepts book call ≡ false → after book call ≡ book) (without : B → B) {Has : B → Type 0}
      {Spares : C → Type 0}
      (turn : (book : B) (call : C) → Has book → Spares call → accepts book call ≡ true
      → Has (after book call) × (after (without book) call ≡ without (after book call))) where
    pub left_out : {calls : List C} → Each Spares calls → (book : B) → Has book
        → Has (after_by after book calls) × (without (after_by after book calls) ≡ after_by after (without book) (accepted_by accepts after book calls))
    unfolding after_by accepted_by
    left_out fit_nil book has = (has, refl)
    left_out (fit_cons {call = call} {calls = calls} spares fit) book has = go (accepts book call) refl (left_out fit (after book call))
      where
        Left : List C → Type 0
        Left left = Has (after_by after (after book call) calls) × (without (after_by after (after book call) calls) ≡ after_by after (without book) left)

        go : (b : Bool) → accepts book call ≡ b
            → (Has (after book call)
            → Has (after_by after (after book call) calls)
            × (without (after_by after (after book call) calls) ≡ after_by after (without (after book call)) (accepted_by accepts after (after book call) calls)))
            → Left (cond b (call ∷ accepted_by accepts after (after book call) calls) (accepted_by accepts after (after book call) calls))
        go true e ih =
            let t = turn book call has spares e in
            let r = ih t.0 in
            (r.0, r.1 ∙ ap (λ x. after_by after x (accepted_by accepts after (after book call) calls)) (sym t.1))
        go false e ih =
            let r = ih (subst Has (sym (refused book call e)) has) in
            (r.0, r.1 ∙ ap (λ x. after_by after (without x) (accepted_by accepts after (after book call) calls)) (refused book call e))

module _ {B C A : Type 0} {Same : B → B → Type 0} {answer : B → C → A} {after : B → C → B} (likeness : Likeness Same answer after) where
  pub answers-same : {a b : B} → Same a b → (calls : List C) → answers_by answer after a calls ≡ answers_by answer after b calls
  unfolding answers_by
  answers-same {a = a} {b = b} same [] = refl
  answers-same {a = a} {b = b} same (call ∷ calls) =
      ap₂ (λ (x : A) l. x ∷ l) (likeness.same_answer same call) (answers-same {a = after a call} {b = after b call} (likeness.same_after same call) calls)

  pub after_same : {a b : B} → Same a b → (calls : List C) → Same (after_by after a calls) (after_by after b calls)
  unfolding after_by
  after_same {a = a} {b = b} same [] = same
  after_same {a = a} {b = b} same (call ∷ calls) = after_same {a = after a call} {b = after b call} (likeness.same_after same call) calls

module _ {S B C A : Type 0} {Step : S → C → A → S → Type 0} {Good : S → Type 0} {book_of : S → B} {Same : B → B → Type 0} {answer : B → C → A}
    {after : B → C → B} (likeness : Likeness Same answer after)
    (faithful : (s : S) (call : C) (a : A) (t : S) → Step s call a t → Good s → AsBook Good book_of Same answer after s call a t) where
  pub every-run : {s t : S} {calls : List C} {given : List A} → Run Step s calls given t → Good s
      → AsBook Good book_of Same (answers_by answer after) (after_by after) s calls given t
  unfolding answers_by after_by
  every-run {s} done good = record { answered = refl; good = good; book = likeness.same_refl (book_of s) }
  every-run (next {calls = calls} step run) good =
      let f = faithful _ _ _ _ step good in
      let r = every-run run f.good in
      record {
        answered = ap₂ (λ (a : A) l. a ∷ l) f.answered (r.answered ∙ answers-same likeness f.book calls);
        good = r.good;
        book = likeness.same_trans r.book (after_same likeness f.book calls);
      }

  pub one_end : ((t u : S) → Good t → Good u → Same (book_of t) (book_of u) → t ≡ u)
      → {s t u : S} {calls : List C} {given other : List A} → Good s → Run Step s calls given t → Run Step s calls other u → t ≡ u
  one_end one {s} {t} {u} good a b =
      let x = every-run a good in
      let y = every-run b good in
      one t u x.good y.good (likeness.same_trans x.book (likeness.same_sym y.book))

  pub some_run : {Fits : C → Type 0} → ((s : S) (call : C) → Good s → Fits call → (a : A) × (t : S) × Step s call a t)
      → {calls : List C} → Each Fits calls → (s : S) → Good s → (given : List A) × (t : S) × Run Step s calls given t
  some_run some-step fit_nil s good = ([], s, done)
  some_run some-step (fit_cons {call = call} fits fit) s good =
      let d = some-step s call good fits in
      let r = some_run some-step fit d.1 (faithful _ _ _ _ d.2 good).good in
      (d.0 ∷ r.0, r.1, next d.2 r.2)

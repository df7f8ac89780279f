-- Demand 3, whole, of every modem: 'No sequence of calls can lose, add or change an answer.'
--
--   demand-3             it holds of every modem
--   fresh-opening        a refused opening hands back a new session of the modem's first rate with an empty list
--
-- It speaks of runs, whose steps are what the calls promise (Promises, Step), and of sessions that stand for a book, as those do that an accepted opening
-- returned. T is that of the closing (ReachAfter): by the rate and the places that are blank in the columns held then, the largest number with
-- 2T + b < n − M − g. A modem of the family is given by its numbers alone (`book` Model): an instance brings these.
use Rattle.std.specs.Prelude.{Bool, ◌≡◌, ◌↔◌, ◌≢◌, ℕ, ◌<◌, ◌≤◌}
use Rattle.std.proofs.Math.Bool.{true, false}
use Rattle.std.proofs.Math.Path.{refl, ap}
use Rattle.std.proofs.Common.{◌∙◌, arith}
use mathlib.Core.List.{List, []}
use Rattle.std.proofs.Math.Decide.{dec_le}
use Rattle.refusals.specs.Refusal.{accepted, too_blank}
use Rattle.near.specs.Near.{blank_limit, reach_of}
use Rattle.near.specs.Reach.{reach-is, reach-none}
use Rattle.book.specs.Model.{Model}
use Rattle.book.specs.Book.{Book, new_book, Outcome}
use Rattle.book.specs.Columns.{agree-sym, agree_trans, agree-path}
use Rattle.book.specs.Entries.{Missing}
use Rattle.book.specs.opening.Opening.{fit_doubt, refused_opening, open_of}
use Rattle.book.specs.opening.OpeningLaws.{Known}
use Rattle.book.specs.rows.RowLaws.{open-refused-rate, open-refused-list, open-accepted}
use Rattle.book.specs.sentences.Sentences.{Closes}
use Rattle.book.specs.calls.Calls.{Answer, Call, Others, after_all}
use Rattle.book.proofs.calls.CallLaws as laws
use Rattle.calls.specs.Held.{new_held}
use Rattle.calls.specs.Keeping.{Keeping, one-session}
use Rattle.calls.specs.Promises.{Opening}
use Rattle.calls.specs.PromiseLaws.{refused-opens}
use Rattle.calls.specs.Follows.{closed_by, blanks_after, ReachAfter}
use Rattle.calls.proofs.Follows.{reach-after, limit-after, opening-accepted, opening-stands, stands-follows, one-stands}
use Rattle.calls.specs.Alike as agreeing
use Rattle.calls.proofs.Undone as undoing
use Rattle.calls.specs.Demand3.{ClosedAfter, closed_after, Demand3}

module _ {𝓓 : Model} {X S : Type 0} (others : Others 𝓓 X) (K : Keeping S) where
  open 𝓓 use {member, first, workable}

  closes-after : {book : Book} {calls : List (Call X)} {a : Answer} → ClosedAfter others K book calls a → Closes 𝓓 (after_all others book calls) (closed_by a)
  closes-after (closed_after start run step long whole_report) = (stands-follows 𝓓 K others start).closed run step long whole_report

  closed-rate : {book : Book} {calls : List (Call X)} {a : Answer} → ClosedAfter others K book calls a → Known 𝓓 book.rate
  closed-rate (closed_after start run step long whole_report) = start.rate

  module _ {book : Book} {calls : List (Call X)} {a : Answer} (c : ClosedAfter others K book calls a) where
    blank-after : (a.number ≡ too_blank)
        ↔ (((p : ℕ) → Missing 𝓓 (after_all others book calls).row p → ⊥) × (blank_limit member book.rate < blanks_after others book calls))
    blank-after = (
      λ n. (full n, omega (arith, limit-after others book calls, ((closes-after c).too-blank (full n)).0 n)),
      λ r. ((closes-after c).too-blank r.0).1 (omega (arith, limit-after others book calls, r.1)),
    )
      where
        full : a.number ≡ too_blank → (p : ℕ) → Missing 𝓓 (after_all others book calls).row p → ⊥
        full n p m = omega (arith, n, (closes-after c).early.1 (p, m))

    reach-there : ((p : ℕ) → Missing 𝓓 (after_all others book calls).row p → ⊥) → a.number ≢ too_blank → (T : ℕ) × ReachAfter others book calls T
    reach-there full n = go (dec_le (blanks_after others book calls) (blank_limit member book.rate))
      where
        go : Dec (blanks_after others book calls ≤ blank_limit member book.rate) → (T : ℕ) × ReachAfter others book calls T
        go (yes few) =
            (reach_of member book.rate (blanks_after others book calls), reach-is member (workable book.rate (closed-rate c)) few)
        go (no many) = absurd (n (blank-after.1 (full, omega arith)))

  -- ---- a refused opening

  refused-agrees : (rate : ℕ) (list : List ℕ) → (open_of 𝓓 rate list).number ≢ accepted → (open_of 𝓓 rate list).book ≡ new_book first []
  unfolding refused_opening
  refused-agrees rate list n = go (𝓓.known rate) refl (fit_doubt 𝓓 list) refl
    where
      go : (a : Bool) → 𝓓.known rate ≡ a → (b : Bool) → fit_doubt 𝓓 list ≡ b → (open_of 𝓓 rate list).book ≡ new_book first []
      go false r b f = ap (λ (o : Outcome). o.book) (open-refused-rate 𝓓 rate list r)
      go true r false f = ap (λ (o : Outcome). o.book) (open-refused-list 𝓓 rate list r f)
      go true r true f = absurd (n (ap (λ (o : Outcome). o.number) (open-accepted 𝓓 rate list r f)))

  pub fresh-opening : (rate : ℕ) (list : List ℕ) {n : ℕ} {t : S} → Opening 𝓓 K (open_of 𝓓 rate list) n t → n ≢ accepted
      → t ≡ K.made (new_held 𝓓 first [])
  unfolding refused_opening
  fresh-opening rate list {n} {t} opened m =
      let new : S = K.made (new_held 𝓓 first []) in
      let fresh : Opening 𝓓 K (refused_opening 𝓓 n) n new = refused-opens 𝓓 K n (K.held_made (new_held 𝓓 first [])) in
      one-session 𝓓 K t new opened.good fresh.good
      (agree_trans opened.book
      (agree_trans (agree-path (refused-agrees rate list (λ e. m (opened.number ∙ e)))) (agree-sym fresh.book)))

  pub demand-3 : Demand3 others K
  demand-3 =
      record {
        opening_accepts = λ known fit opened. opening-accepted 𝓓 K known fit opened;
        opened = λ known fit opened. opening-stands 𝓓 K known fit opened;
        refused-opening = λ rate list opened n. fresh-opening rate list opened n;
        lists = λ list. (λ d. (d.short, d.in_range, d.rises), λ d. record { short = d.0; in_range = d.1; rises = d.2 });
        answered = λ start run. (stands-follows 𝓓 K others start).answered run;
        left = λ start run. (stands-follows 𝓓 K others start).left run;
        one_left = λ start run other. (stands-follows 𝓓 K others start).one_left run other;
        some_run = λ start fit. (stands-follows 𝓓 K others start).not_empty fit;
        early = λ c. (closes-after c).early;
        too-blank = λ c. blank-after c;
        blank_rule = λ {rate} known. (λ few. reach-is member (workable rate known) few, λ many T reach. reach-none member many reach);
        blank_closing = laws.only-closing-blank others;
        some_reach = λ c full n. reach-there c full n;
        none-near = λ {book} {calls} c full reach. (closes-after c).none-near full (reach-after others book calls reach);
        otherwise = λ {book} {calls} c full reach n. (closes-after c).otherwise full (reach-after others book calls reach) n;
        only_changes = laws.only_changes others;
        takes_out = laws.withdrawn-after others;
        refused_kept = laws.refused-lent others;
        alike = λ x y same. agreeing.alike others K x y same;
        one_held = λ x y same. agreeing.held_one others K x y same;
        one_start = λ x y. one-stands 𝓓 K x y;
        undone = λ start before p column n spares run without. undoing.undone others K start before p column n spares run without;
      }

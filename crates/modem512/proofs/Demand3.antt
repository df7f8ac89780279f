-- Demand 3, whole, of the modem of 512 places: 'Demand 3 holds here with lists of deliveries, withdrawals and closings; a refused opening hands back rate 289.'
--
--   whole                it holds, by what is proved of every modem (`calls` Demand3 demand-3)
--   shells-start, shells-run, shells-answered   then an opening by them is such a start, and a list of calls made by them is such a run, and is answered so
--
-- Nothing is asked here of how a session is kept: the fields may stand in a struct, or some of them in an array that is lent (`calls` Keeping).
use Rattle.std.specs.Prelude.{false, ◌≡◌, List, [], ◌≢◌, ℕ, replicate}
use Rattle.std.proofs.Math.Path.{refl, ap}
use Rattle.std.proofs.Common.{◌∙◌}
use Rattle.refusals.specs.Refusal.{accepted}
use Rattle.lists.specs.Padded.{padded}
use Rattle.book.specs.Book.{Book, new_book}
use Rattle.book.specs.opening.Opening.{open_of}
use Rattle.book.specs.opening.OpeningLaws.{Known, DoubtfulList}
use Rattle.book.specs.Machine as machine
use Rattle.book.specs.calls.Calls.{Answer}
use Rattle.calls.specs.Held as Fields
use Rattle.calls.specs.Held.{new_held}
use Rattle.calls.specs.Keeping.{Keeping}
use Rattle.calls.specs.Promises.{Opening}
use Rattle.calls.specs.Runs.{made-run}
use Rattle.calls.specs.Follows.{by_opening}
use Rattle.calls.proofs.Follows.{start-stands}
use Rattle.calls.specs.Alike as agreeing
use Rattle.calls.specs.Demand3 as all
use Rattle.calls.proofs.Demand3 as all-laws
use Rattle.modem512.specs.Model.{modem512, known-rates, lists-512, rates-512}
use Rattle.modem512.proofs.Model.{reach-512}
use Rattle.modem512.specs.Demand3.{Call, others512, answers, Run, Start, ClosedAfter, closed_after, Reached, reached, Demand3, asks, MadeBy, Shells}

-- ---- its calls, and the book under them

module _ {S : Type 0} (K : Keeping S) where
  -- ---- the claim

  -- every modem's, at this one
  abbrev general : all.Demand3 others512 K
  general = all-laws.demand-3 others512 K

  closes-after : {b : Book} {calls : List Call} {a : Answer} → ClosedAfter K b calls a → all.ClosedAfter others512 K b calls a
  closes-after (closed_after start run step long whole_report) = all.closed_after (start-stands modem512 K start) run step long whole_report

  reached-any : {t : S} → Reached K t → agreeing.Reached others512 K t
  reached-any (reached start run) = agreeing.reached (start-stands modem512 K start) run

  refused-289 : (rate : ℕ) (list : List ℕ) {n : ℕ} {t : S} → Opening modem512 K (open_of modem512 rate list) n t → n ≢ accepted
      → (t ≡ K.made (new_held modem512 289 [])) × ((K.held t).rate ≡ 289) × ((K.held t).doubt ≡ 0)
  unfolding new_held
  refused-289 rate list opened n =
      let e = general.refused-opening rate list opened n in
      let h = ap K.held e ∙ K.held_made (new_held modem512 289 []) in
      (e, ap (λ (x : Fields.Held). x.rate) h, ap (λ (x : Fields.Held). x.doubt) h)

  new-fields : (rate : ℕ) (list : List ℕ)
      → ((new_held modem512 rate list).costs ≡ replicate 32768 0) × ((new_held modem512 rate list).taken ≡ replicate 512 false)
      × ((new_held modem512 rate list).doubtful ≡ padded 12 list)
  unfolding new_held
  new-fields rate list = (refl, refl, refl)

  pub whole : Demand3 K
  whole =
      record {
        sizes = (refl, refl, refl, refl);
        rates = known-rates;
        lists = lists-512;
        opening_accepts = λ rate known fit opened. (general.opening_accepts known fit opened, by_opening known fit opened);
        refused-opening = λ rate list opened n. refused-289 rate list opened n;
        new-session = new-fields;
        answered = λ start run. general.answered (start-stands modem512 K start) run;
        left = λ start run. general.left (start-stands modem512 K start) run;
        one_left = λ start run other. general.one_left (start-stands modem512 K start) run other;
        some_run = λ start fit. general.some_run (start-stands modem512 K start) fit;
        early = λ c. general.early (closes-after c);
        too-blank = λ c. general.too-blank (closes-after c);
        blank_closing = general.blank_closing;
        reach_rule = λ rate b T. (rates-512 rate b T).1;
        limits = reach-512;
        some_reach = λ c full n. general.some_reach (closes-after c) full n;
        none-near = λ c full reach. general.none-near (closes-after c) full reach;
        otherwise = λ c full reach n. general.otherwise (closes-after c) full reach n;
        only_changes = general.only_changes;
        refused_kept = general.refused_kept;
        alike = λ x y same a b. (general.alike (reached-any x) (reached-any y) same).close_alike a b;
        one_held = λ x y same. general.one_held (reached-any x) (reached-any y) same;
        one_start = λ x y. general.one_start (start-stands modem512 K x) (start-stands modem512 K y);
        undone = λ start before p column n spares run without.
            general.undone (start-stands modem512 K start) before p column n spares run without;
      }

  -- ---- from what the functions will promise

  module _ (opens : ℕ → List ℕ → ℕ → S → Type 0) (delivers : S → ℕ → List ℕ → ℕ → S → Type 0) (withdraws : S → ℕ → ℕ → S → Type 0)
      (closes : S → List ℕ → List ℕ → ℕ → List ℕ → List ℕ → Type 0) where
    module _ (shells : Shells K opens delivers withdraws closes) where
      pub shells-start : {rate : ℕ} {list : List ℕ} {n : ℕ} {t : S} → Known modem512 rate → DoubtfulList modem512 list → opens rate list n t
          → (n ≡ accepted) × Start K (new_book rate list) t
      shells-start {rate} known fit opened = whole.opening_accepts rate known fit (shells.opening opened)

      pub shells-run : {s t : S} {calls : List Call} {given : List Answer} → machine.Run (MadeBy K opens delivers withdraws closes) s calls given t
          → Run K s calls given t
      shells-run run = made-run others512 K delivers withdraws closes (asks K opens delivers withdraws closes) shells.promised run

      pub shells-answered : {rate : ℕ} {list : List ℕ} {n : ℕ} {s t : S} {calls : List Call} {given : List Answer} → Known modem512 rate
          → DoubtfulList modem512 list → opens rate list n s → machine.Run (MadeBy K opens delivers withdraws closes) s calls given t
          → (n ≡ accepted) × (given ≡ answers (new_book rate list) calls)
      shells-answered known fit opened run =
          let s = shells-start known fit opened in
          (s.0, whole.answered s.1 (shells-run run))

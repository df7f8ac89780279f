-- Decoding by the doubtful places picked from columns, whatever the costs were made from.
--
--   fit-picked           the places picked are a doubtful list that opening accepts
--   costs-askable        so the search may be asked for them, as an array and a number hold them
--   costs-decoded        and decoding by these is decoding by the list
--   front                the array that holds a list from its front, with zeros behind it
--   in-front             it holds the list
--   decoded-front        decoding by a list is decoding by what the array holds of it
use Rattle.std.specs.Prelude.{true, ◌≡◌, List, ℕ, suc, ◌*◌, ◌≤◌, length, get_or, take}
use Rattle.std.proofs.Common.{sym, ap, ◌∙◌, refl, arith}
use Rattle.lists.specs.Member.{member-at}
use Rattle.lists.specs.Padded.{padded}
use Rattle.code.specs.Encoding.{known_rate}
use Rattle.soft.specs.Column.{places, symbols, column_of}
use Rattle.soft.specs.Doubt.{most_doubt, doubtful_of}
use Rattle.soft.specs.DoubtLaws.{doubtful-most, doubtful-below, doubtful-rising}
use Rattle.weighing.specs.Picked.{PickedIn, picked-take}
use Rattle.book.specs.closing.Closing.{Closed}
use Rattle.book.specs.opening.OpeningLaws.{list-fits}
use Rattle.book64.specs.Modem64.{modem64}
use Rattle.book64.specs.Here.{fit_doubt, decode_of}
use Rattle.answering.specs.Asked.{askable-fit}
use Rattle.decoding.specs.Asked.{Askable}

module _ (doubt : ℕ) (few : doubt ≤ most_doubt) where
  module _ (columns : ℕ → List ℕ) where
    abbrev list : List ℕ
    list = doubtful_of places doubt columns

    short : length list ≤ most_doubt
    short = omega (arith, doubtful-most places doubt columns)

    pub fit-picked : fit_doubt list ≡ true
    fit-picked =
        list-fits modem64
        (record {
          short = short;
          in_range = λ i l. doubtful-below places doubt columns (get_or list i 0) (member-at list 0 i l);
          rises = λ i l. (doubtful-rising places doubt columns).rises i (suc i) (omega arith) l;
        })

    abbrev pub front : List ℕ
    front = padded most_doubt list

    pub in-front : PickedIn most_doubt list front (length list)
    in-front = record { places = refl; count = refl }

    pub decoded-front : (rate : ℕ) (message report : List ℕ) {a : Closed} → a ≡ decode_of rate columns list message report
        → a ≡ decode_of rate columns (take (length list) front) message report
    decoded-front rate message report e = e ∙ ap (λ l. decode_of rate columns l message report) (sym (picked-take in-front short))

  pub costs-askable : (rate : ℕ) (costs : List ℕ) {array : List ℕ} {n : ℕ} → PickedIn most_doubt (doubtful_of places doubt (column_of symbols costs)) array n
      → known_rate rate ≡ true → length costs ≡ places * symbols → Askable rate costs array n
  costs-askable rate costs {array} {n} d known size =
      let few : n ≤ most_doubt = omega (arith, d.count, short (column_of symbols costs)) in
      askable-fit modem64 rate costs array n known (ap fit_doubt (picked-take d few) ∙ fit-picked (column_of symbols costs)) size few

  pub costs-decoded : (rate : ℕ) (costs : List ℕ) {array : List ℕ} {n : ℕ} → PickedIn most_doubt (doubtful_of places doubt (column_of symbols costs)) array n
      → (message report : List ℕ) {a : Closed} → a ≡ decode_of rate (column_of symbols costs) (take n array) message report
      → a ≡ decode_of rate (column_of symbols costs) (doubtful_of places doubt (column_of symbols costs)) message report
  costs-decoded rate costs {array} {n} d message report e =
      e ∙ ap (λ l. decode_of rate (column_of symbols costs) l message report) (picked-take d (omega (arith, d.count, short (column_of symbols costs))))

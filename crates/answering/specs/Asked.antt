-- When a search may be asked, but for blank places: for a rate and a doubtful list that opening accepts. Of every modem.
--
--   Askable rate costs doubtful doubt   a known rate, a cost for each symbol of each place, and no more doubtful places than the largest doubt,
--                      different and of the modem
--   fit-places         a fit doubtful list has different places, all of the modem
--   askable-fit        so the arguments are such at a known rate
use Rattle.std.specs.Prelude.{true, ◌≡◌, List, ℕ, ◌*◌, ◌≤◌, leb, length, take}
use Rattle.lists.specs.Distinct.{and_right}
use Rattle.near.specs.Tree.{Places}
use Rattle.book.specs.Model.{Model, places, width}
use Rattle.book.specs.opening.Opening.{fit_places, fit_doubt}
use Rattle.book.specs.opening.OpeningLaws.{fits-places}

module _ (𝓓 : Model) where
  open 𝓓 use {known, most_doubt}

  pub record Askable (rate : ℕ) (costs doubtful : List ℕ) (doubt : ℕ) : Type 0 where
    pub known : known rate ≡ true
    pub size : length costs ≡ places 𝓓 * width 𝓓
    pub few : doubt ≤ most_doubt
    pub fit : Places (places 𝓓) (take doubt doubtful)

  pub fit-places : (list : List ℕ) → fit_doubt 𝓓 list ≡ true → Places (places 𝓓) list
  unfolding fit_doubt
  fit-places list e = fits-places 𝓓 list (and_right (leb (length list) most_doubt) (fit_places 𝓓 list) e)

  pub askable-fit : (rate : ℕ) (costs doubtful : List ℕ) (doubt : ℕ) → known rate ≡ true → fit_doubt 𝓓 (take doubt doubtful) ≡ true
      → length costs ≡ places 𝓓 * width 𝓓 → doubt ≤ most_doubt → Askable rate costs doubtful doubt
  askable-fit rate costs doubtful doubt known fit size few =
      record { known = known; size = size; few = few; fit = fit-places (take doubt doubtful) fit }

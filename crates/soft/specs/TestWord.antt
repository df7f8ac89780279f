-- Test words (Chase's test patterns): a tree in which each doubtful place that is not blank, lowest first, doubles them, once with its best and
-- once with its second symbol.
--
--   best_word n columns           every place carries its best symbol
--   expand columns word places   the word, doubled at each of the places in turn: first with the best symbol there, then with the second
--   test_words n columns doubtful the test words of a list of doubtful places: the blank ones are not doubled; every place that is not doubled carries
--                                its best symbol (the hard decision is kept)
--   Offered columns p s          the symbol s is the best or the second symbol of place p
use Rattle.std.specs.Prelude.{◌≡◌, List, [], ◌∷◌, ◌++◌, ◌⊎◌, ℕ, set}
use Rattle.lists.specs.Listed.{listed}
use Rattle.soft.specs.Column.{best_of, second_of}
use Rattle.soft.specs.Blank.{open_at, unblanked}

abbrev pub best_at : (ℕ → List ℕ) → ℕ → ℕ
best_at columns p = best_of (columns p)

abbrev pub second_at : (ℕ → List ℕ) → ℕ → ℕ
second_at columns p = second_of (columns p)

abbrev pub Offered : (ℕ → List ℕ) → ℕ → ℕ → Type 0
Offered columns p s = (s ≡ best_at columns p) ⊎ (s ≡ second_at columns p)

unfoldable pub best_word : ℕ → (ℕ → List ℕ) → List ℕ
best_word n columns = listed n (best_at columns)

unfoldable pub expand : (ℕ → List ℕ) → List ℕ → List ℕ → List (List ℕ)
expand columns word [] = word ∷ []
expand columns word (p ∷ ps) =
    expand columns (set word p (best_at columns p)) ps ++ expand columns (set word p (second_at columns p)) ps

unfoldable pub test_words : ℕ → (ℕ → List ℕ) → List ℕ → List (List ℕ)
test_words n columns doubtful = expand columns (best_word n columns) (unblanked (open_at columns) doubtful)

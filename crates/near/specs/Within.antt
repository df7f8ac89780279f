-- How many test words are within T of a word, for every member, any T and any places that count.
--
--   tests_within c tests      how many test words are within T of the word c
--   within-nil, within-cons, within-append   one after the other and by parts
--   WithinOf columns c word ps left n   what counting the test words below a node finds
use Rattle.std.specs.Prelude.{Bool, ◌≡◌, List, [], ◌∷◌, ◌++◌, ℕ, ◌+◌, ◌^◌, ◌≤◌, leb}
use Rattle.std.proofs.Math.Path.{refl}
use Rattle.std.proofs.Common.{arith}
use Rattle.lists.specs.Count.{bit}
use Rattle.soft.specs.Total.{differing_in}
use Rattle.soft.specs.TestWord.{expand}
use Rattle.family.specs.Member.{Member, places}
use Rattle.near.specs.Tree.{Places}

module _ (𝓜 : Member) (counts : ℕ → Bool) (reach : ℕ) where
  unfoldable pub tests_within : List ℕ → List (List ℕ) → ℕ
  tests_within c [] = 0
  tests_within c (t ∷ tests) = bit (leb (differing_in counts (places 𝓜) c t) reach) + tests_within c tests

  module _ (c : List ℕ) where
    pub within-nil : tests_within c [] ≡ 0
    unfolding tests_within
    within-nil = refl

    pub within-cons : (t : List ℕ) (ts : List (List ℕ)) → tests_within c (t ∷ ts) ≡ bit (leb (differing_in counts (places 𝓜) c t) reach) + tests_within c ts
    unfolding tests_within
    within-cons t ts = refl

    pub within-append : (ts us : List (List ℕ)) → tests_within c (ts ++ us) ≡ tests_within c ts + tests_within c us
    within-append [] us = omega (arith, within-nil)
    within-append (t ∷ ts) us = omega (arith, within-cons t (ts ++ us), within-cons t ts, within-append ts us)

  pub record WithinOf (columns : ℕ → List ℕ) (c word ps : List ℕ) (left n : ℕ) : Type 0 where
    pub few : n ≤ 2 ^ left
    pub count : Places (places 𝓜) ps → n ≡ tests_within c (expand columns word ps)

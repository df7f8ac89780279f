-- What the search of the 512-place modem answers: the family's, with document 02's numbers. Nothing is proved here but the numbers.
--
--   scope512           what a search has to know of this modem: GF(64) with w = 8, these rates, of which 409 is the longest, and a doubt of at most 12
--   Asked, well_formed, nearest_of rate costs doubtful doubt   what may be asked, its test, and what the call answers, as the family has them
--   nearest-call       what it says of the near codewords
--   InNumbers, asked-512   what may be asked, in numbers
use Rattle.std.specs.Prelude.{Bool, true, false, ◌||◌, ◌≡◌, refl, List, ◌⊎◌, ◌↔◌, ℕ, ◌≤◌, eqb, length, take}
use Rattle.std.proofs.lemmas.Bool.{false≢true}
use Rattle.std.proofs.Common.{ap, inl, inr, ⊎_elim, arith, eqb-true}
use Rattle.soft.specs.Blank.{blanks_of}
use Rattle.soft.specs.Column.{column_of}
use Rattle.near.specs.Near.{blank_limit}
use Rattle.near.specs.Tree.{Places}
use Rattle.search.specs.Result.{Finding}
use Rattle.search.specs.Call.{Scope, NearestCall}
use Rattle.search.specs.Call as Family
use Rattle.search.specs.CallLaws as Laws
use Rattle.member64.specs.Member64.{m64}
use Rattle.modem512.specs.Ground.{limits-512}
use Rattle.modem512.specs.Model.{known_rate, known-rates, known-workable}

pub known-short : (k : ℕ) → known_rate k ≡ true → k ≤ 409
known-short k e = ⊎_elim (λ (h : k ≡ 289). omega arith) (λ (h : k ≡ 409). omega arith) ((known-rates k).0 e)

abbrev pub scope512 : Scope
scope512 = record { member = m64; known = known_rate; workable = known-workable; longest = 409; bounded = known-short; most_doubt = 12 }

abbrev pub Asked : ℕ → List ℕ → List ℕ → ℕ → Type 0
Asked rate costs doubtful doubt = Family.Asked scope512 rate costs doubtful doubt

abbrev pub well_formed : ℕ → List ℕ → List ℕ → ℕ → Bool
well_formed rate costs doubtful doubt = Family.well_formed scope512 rate costs doubtful doubt

abbrev pub nearest_of : ℕ → List ℕ → List ℕ → ℕ → Finding
nearest_of rate costs doubtful doubt = Family.nearest_of scope512 rate costs doubtful doubt

pub nearest-call : (rate : ℕ) (costs doubtful : List ℕ) (doubt : ℕ) (f : Finding) → f ≡ nearest_of rate costs doubtful doubt
    → NearestCall scope512 rate costs doubtful doubt f
nearest-call = Laws.nearest-call scope512

-- 32,768 costs, at most 12 doubtful places, all of them different and below 512, and at most 167 blank places at rate 289 and 47 at rate 409
abbrev pub InNumbers : ℕ → List ℕ → List ℕ → ℕ → Type 0
InNumbers rate costs doubtful doubt =
    (length costs ≡ 32768) × (doubt ≤ 12) × Places 512 (take doubt doubtful)
    × (((rate ≡ 289) × (blanks_of 512 (column_of 64 costs) ≤ 167)) ⊎ ((rate ≡ 409) × (blanks_of 512 (column_of 64 costs) ≤ 47)))

pub asked-512 : (rate : ℕ) (costs doubtful : List ℕ) (doubt : ℕ) → Asked rate costs doubtful doubt ↔ InNumbers rate costs doubtful doubt
asked-512 rate costs doubtful doubt = (there, back)
  where
    there : Asked rate costs doubtful doubt → InNumbers rate costs doubtful doubt
    there A = (
      A.size,
      A.few,
      A.fit,
      ⊎_elim (λ (h : rate ≡ 289). inl (h, omega (arith, A.few_blank, ap (blank_limit m64) h, limits-512.0)))
          (λ (h : rate ≡ 409). inr (h, omega (arith, A.few_blank, ap (blank_limit m64) h, limits-512.2))) ((known-rates rate).0 A.known),
    )

    back : InNumbers rate costs doubtful doubt → Asked rate costs doubtful doubt
    back h =
        record {
          known = (known-rates rate).1 (⊎_elim (λ a. inl a.0) (λ a. inr a.0) h.3);
          size = h.0;
          few = h.1;
          fit = h.2;
          few_blank =
              ⊎_elim (λ a. omega (arith, a.1, ap (blank_limit m64) a.0, limits-512.0)) (λ a. omega (arith, a.1, ap (blank_limit m64) a.0, limits-512.2)) h.3;
        }

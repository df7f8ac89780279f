-- The modem of 512 places: GF(64) with w = 8, and what document 02, #114, fixes for it.
--
--   refused-289          a refused opening hands back a new book of rate 289 with an empty doubtful list
--   reach-512            at rate 289 T = 83 without blank places and T = 0 with 167, at rate 409 T = 23 and with 47; more blank places leave no T
use Rattle.std.specs.Prelude.{◌≡◌, refl, [], ℕ, ◌≤◌}
use Rattle.std.proofs.Common.{subst, arith}
use Rattle.near.specs.Near.{blank_limit, reach_of}
use Rattle.near.specs.Reach.{Workable, Reach, reach-is}
use Rattle.book.specs.Book.{new_book}
use Rattle.book.specs.opening.Opening.{refused_opening}
use Rattle.member64.specs.Member64.{m64}
use Rattle.modem512.specs.Ground.{reaches-512, limits-512}
use Rattle.modem512.specs.Model.{known-workable, known-289, known-409, modem512}

-- ---- its numbers

pub refused-289 : (n : ℕ) → refused_opening modem512 n ≡ record { number = n; book = new_book 289 [] }
unfolding refused_opening
refused-289 n = refl

reach-at : (k b : ℕ) {T : ℕ} → Workable m64 k → b ≤ blank_limit m64 k → reach_of m64 k b ≡ T → Reach m64 k b T
reach-at k b rate few e = subst (Reach m64 k b) e (reach-is m64 rate few)

pub reach-512 : (blank_limit m64 289 ≡ 167) × (blank_limit m64 409 ≡ 47) × Reach m64 289 0 83 × Reach m64 409 0 23 × Reach m64 289 167 0
    × Reach m64 409 47 0
reach-512 = (
  limits-512.0,
  limits-512.2,
  reach-at 289 0 (known-workable 289 known-289) (omega arith) reaches-512.1,
  reach-at 409 0 (known-workable 409 known-409) (omega arith) reaches-512.3,
  reach-at 289 167 (known-workable 289 known-289) (omega (arith, limits-512.0)) limits-512.1,
  reach-at 409 47 (known-workable 409 known-409) (omega (arith, limits-512.2)) limits-512.3,
)

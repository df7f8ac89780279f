-- The modem of 64 places: document 01's, GF(16) with w = 4, so 64 places and sixteen costs; rates 6 to 52, a doubt of at most 12, rate 39 after a refused
-- opening, and one byte for each count of places.
--
--   modem64              the modem
--   known-workable, known-doubt, known-39   what a modem asks of its rates
use Rattle.std.specs.Prelude.{true, ◌≡◌, refl, ℕ, ◌+◌, ◌≤◌}
use Rattle.std.proofs.Common.{arith, lit<}
use Rattle.soft.specs.Doubt as Doubt
use Rattle.family.specs.Member.{m16}
use Rattle.family.specs.Member as Family
use Rattle.code.specs.Encoding.{known_rate}
use Rattle.code.specs.Rates.{known-bounds}
use Rattle.near.specs.Near.{blank_limit}
use Rattle.near.specs.Reach.{Workable}
use Rattle.near.proofs.Here as Near
use Rattle.book.specs.Model.{Model}

pub known-workable : (k : ℕ) → known_rate k ≡ true → Workable m16 k
known-workable k known = let b = known-bounds k known in Near.workable (omega (arith, b)) (omega (arith, b))

pub known-doubt : (k : ℕ) → known_rate k ≡ true → Doubt.most_doubt + blank_limit m16 k ≤ Family.places m16
known-doubt k known = omega (arith, known-bounds k known, Near.blank-limit-is k, Near.m-is k)

pub known-39 : known_rate 39 ≡ true
unfolding known_rate
known-39 = refl

abbrev pub modem64 : Model
modem64 =
    record {
      member = m16;
      known = known_rate;
      workable = known-workable;
      most_doubt = Doubt.most_doubt;
      doubt_fits = known-doubt;
      first = 39;
      first_known = known-39;
      wide = 1;
      counts_fit = lit< tt;
      totals_fit = lit< tt;
      tests_fit = lit< tt;
    }

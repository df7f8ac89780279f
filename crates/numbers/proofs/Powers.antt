-- The powers of ten of a table, each tested once.
--
--   greatest k c      c is the largest power of rate k
--   from-table        in a table that passes at every rate, the entry of each is the largest
use Rattle.std.specs.Prelude.{Bool, not, List, ℕ, suc, ◌+◌, ◌-◌, ◌*◌, ◌^◌, ◌<◌, T, leb, get_or}
use Rattle.std.proofs.Common.{subst, ⊎_elim, arith, lit<}
use Rattle.std.proofs.Math.Facts.{leb_yes, leb_no}
use Rattle.std.proofs.Math.Nat.{mul-le-mul_left, pow-le-pow_right}
use Rattle.lists.specs.Chosen.{lt-or-le}
use Rattle.lists.specs.Every.{both, both_left, both_right, every, every-at}
use Rattle.soft.specs.Column.{places}
use Rattle.near.specs.Here.{reach_of}
use Rattle.candidate.specs.Ranged.{Ranged}
use Rattle.numbers.specs.Chance.{within, Seldom}
use Rattle.numbers.specs.Most.{Most}

unfoldable pub greatest : ℕ → ℕ → Bool
greatest k c = both (leb (within (reach_of k 0) * 10 ^ c) (16 ^ (places - k))) (not (leb (within (reach_of k 0) * 10 ^ suc c) (16 ^ (places - k))))

pub greatest-most : (k c : ℕ) → T (greatest k c) → Most (Seldom k) c
unfolding greatest Seldom
greatest-most k c t =
    let s = leb (within (reach_of k 0) * 10 ^ suc c) (16 ^ (places - k)) in
    record {
      holds = leb_yes (both_left _ (not s) t);
      most = λ m h. ⊎_elim
          (λ (l : c < m). absurd (omega (
            arith,
            h,
            mul-le-mul_left (within (reach_of k 0)) (pow-le-pow_right {n = 10} (lit< tt) l),
            leb_no (both_right (leb (within (reach_of k 0) * 10 ^ c) (16 ^ (places - k))) (not s) t),
          )))
          (λ l. l) (lt-or-le c m);
    }

pub from-table : (powers : List ℕ) → T (every 47 (λ i. greatest (6 + i) (get_or powers i 0))) → {k : ℕ} → Ranged k → Most (Seldom k) (get_or powers (k - 6) 0)
from-table powers t {k} h =
    subst (λ j. Most (Seldom j) (get_or powers (k - 6) 0)) (omega (arith, h.least))
    (greatest-most (6 + (k - 6)) _ (every-at 47 (λ i. greatest (6 + i) (get_or powers i 0)) t (k - 6) (omega (arith, h.least, h.most))))

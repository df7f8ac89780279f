-- What is measured is the test.
use mathlib.Core.Path.{refl, sym, ap, ◌∙◌, subst}
use Prim.Native.Nat.{◌≤◌}
use lib.Dec.{ltb}
use Rattle.candidate.specs.Ranged.{reach-small}
use Rattle.family.specs.Member.{m16}
use Rattle.search.specs.Known.{governs-by}
use Rattle.search.specs.Counting.{distance-small}
use borrow.Author.Rules.{rules}
use Rattle.known.proofs.governs.Goals as goal

pub overflow_add-apart : goal.overflow_add-apart
overflow_add-apart c =
    let d : c.distance.result ≤ 64 = subst (λ n. n ≤ 64) (sym c.distance.ensures) (distance-small m16 _ _ _) in
    search rules

pub overflow_add-apart-2 : goal.overflow_add-apart-2
overflow_add-apart-2 c =
    let d : c.distance.result ≤ 64 = subst (λ n. n ≤ 64) (sym c.distance.ensures) (distance-small m16 _ _ _) in
    let r : c.reach.result ≤ 28 = subst (λ n. n ≤ 28) (sym c.reach.ensures) (reach-small _ _) in
    search rules

pub returns : goal.returns
returns c =
    ap (ltb _) c.least_distance.ensures
    ∙ governs-by m16 _ _ _ _ _ _ _ _ _ _ _ refl c.filled-agreed.ensures c.distance.ensures c.reach.ensures refl

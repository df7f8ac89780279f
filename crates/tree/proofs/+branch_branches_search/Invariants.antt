-- A search is one more than its branches, and a branch one more than the search below it, of one place less.
use Prim.Native.Nat.{◌+◌, ◌*◌}
use lib.ListN.{length}
use Rattle.tree.proofs.+branch_branches_search.Given as goal

abbrev pub decreases-branch : goal.decreases-branch
decreases-branch l = length l.undecided.places.now * 3 + 2

abbrev pub decreases-branches : goal.decreases-branches
decreases-branches l = length l.undecided.places.now * 3

abbrev pub decreases-search : goal.decreases-search
decreases-search l = length l.undecided.places.now * 3 + 1

-- A branch: governed by the known codeword, or a node with one place less. A node: spent, decided by a row, or with two branches.
use mathlib.Core.Path.{◌≡◌, refl, sym, ap, ◌∙◌, subst}
use Prim.Native.Nat.{◌≤◌}
use native.Mathlib.Nat.{le_trans}
use native.Mathlib.Omega.{arith}
use lib.ListN.{length}
use Rattle.soft.specs.Column.{places, best_of, second_of}
use Rattle.near.specs.Near as Near
use Rattle.basis.specs.Choice.{lead_at}
use Rattle.basis.specs.Step.{row_values}
use Rattle.candidate.specs.Ranged.{workable, reach-small, limit-small}
use Rattle.candidate.specs.OpenFlags.{limit-flagged}
use Rattle.answers.specs.Answered.{Sound, sound-missed}
use Rattle.answers.specs.Better.{sound-better}
use Rattle.known.specs.Counts.{tests_fit}
use Rattle.search.specs.Governing.{sound-below}
use Rattle.search.specs.Descending.{branch-known, branch-node, node-spent, node-decided, node-open}
use Rattle.tree.specs.Searching.{SearchOf, BranchOf}
use Rattle.tree.proofs.Descending.{row_at, one_more, behind-length, node-branches}
use borrow.Author.Rules.{rules}
use Rattle.tree.proofs.+branch_branches_search.Goals as goal

pub branch-returns-then-governs : goal.branch-returns-then-governs
branch-returns-then-governs t c =
    let h = c.requires in
    let frame = c.args.frame.now in
    let size : length c.args.word ≡ places = search rules in
    record {
      found = subst (BranchOf _ _ _ _ _ _ _ _ _) (sym c.as_answer_here.ensures) (branch-known row_values lead_at (workable frame.open.rate.ranged) _ _ _ _ _ _ _ _ size frame.flagged _ _ _ h.1 c.governs.ensures c.if-governs.true c.tests_within-tests.ensures);
      sound = subst (Sound _ _) (sym c.as_answer_here.ensures) (sound-below h.1 _);
    }

pub branch-extend-requires : goal.branch-extend-requires
branch-extend-requires t c =
    let l : c.largest_key-limit.result ≤ 127 = subst (λ n. n ≤ 127) (sym c.largest_key-limit.ensures) (limit-small c.args.frame.now.open.rate.ranged _) in
    (l, search rules)

pub branch-search-requires : goal.branch-search-requires
branch-search-requires t c = (search rules, c.requires.1)

pub branch-returns : goal.branch-returns
branch-returns t c =
    let h = c.requires in
    let frame = c.args.frame.now in
    let size : length c.args.word ≡ places = search rules in
    record {
      found = branch-node row_values lead_at (workable frame.open.rate.ranged) _ _ _ _ _ _ _ _ size _ (c.largest_key-limit.ensures ∙ limit-flagged frame.flagged) _ _ (one_more _ _ _ _ _ _ _ _ _ size h.0 c.extend.ensures) _ c.search.ensures.found;
      sound = c.search.ensures.sound;
    }

pub branches-branch-first-requires : goal.branches-branch-first-requires
branches-branch-first-requires t c = (omega (arith, c.decreases, behind-length c.args.undecided.places.now, c.requires.1), (search rules, c.requires.0))

pub branches-branch-rest-requires : goal.branches-branch-rest-requires
branches-branch-rest-requires t c = (omega (arith, c.decreases, behind-length c.args.undecided.places.now, c.requires.1), (search rules, c.branch-first.ensures.sound))

pub branches-better-requires : goal.branches-better-requires
branches-better-requires t c =
    let few : length c.args.undecided.places.now ≤ 12 = c.args.undecided.few in
    (c.args.frame.now.open.rate.ranged.most, tests_fit _ _ _ (omega (arith, few, behind-length c.args.undecided.places.now)) c.branch-first.ensures.found.few c.branch-rest.ensures.found.few)

pub branches-returns : goal.branches-returns
branches-returns t c =
    record {
      found = subst (SearchOf _ _ _ _ _ _ _) (sym c.better.ensures) (node-branches _ c.requires.1 _ _ _ _ refl _ _
          (c.best-symbol.ensures ∙ ap best_of c.column_of-column.ensures) (c.second-other.ensures ∙ ap second_of c.column_of-column.ensures) _ _ _ _ c.branch-first.ensures.found c.branch-rest.ensures.found);
      sound = subst (Sound _ _) (sym c.better.ensures) (sound-better c.branch-first.ensures.sound c.branch-rest.ensures.sound);
    }

pub search-returns-then-limit-leads : goal.search-returns-then-limit-leads
unfolding lead_at
search-returns-then-limit-leads t c =
    let frame = c.args.frame.now in
    record {
      found = subst (SearchOf _ _ _ _ _ _ _) (sym c.missed.ensures) (node-spent row_values lead_at (workable frame.open.rate.ranged) _ _ _ _ (c.largest_key-limit.ensures ∙ limit-flagged frame.flagged) _ _ _ _ c.least_from-odd.ensures _ c.if-limit-leads.true);
      sound = subst (Sound _ _) (sym c.missed.ensures) (sound-missed c.requires);
    }

-- the least lead of all is no larger than that of the odd classes, and so small
pub search-overflow_add-lead-2 : goal.search-overflow_add-lead-2
unfolding lead_at
search-overflow_add-lead-2 t c =
    let faded = c.args.frame.now.open in
    let close : lead_at c.args.leads.now c.lower-class.result ≤ c.largest_key-limit.result = le_trans c.lower-class.ensures.1 c.if-limit-leads.false in
    let l : lead_at c.args.leads.now c.lower-class.result ≤ 127 = omega (arith, close, c.largest_key-limit.ensures, limit-small faded.rate.ranged faded.blanks) in
    let r : c.reach.result ≤ 28 = subst (λ n. n ≤ 28) (sym c.reach.ensures) (reach-small _ _) in
    search rules

-- the blank places are within the limit
pub search-overflow_sub-frame : goal.search-overflow_sub-frame
unfolding Near.blank_limit
search-overflow_sub-frame t c = omega (arith, c.args.frame.now.open.allowed)

pub search-returns-then-lead-left : goal.search-returns-then-lead-left
unfolding lead_at
search-returns-then-lead-left t c =
    let frame = c.args.frame.now in
    let close : lead_at c.args.leads.now c.lower-class.result ≤ c.largest_key-limit.result = le_trans c.lower-class.ensures.1 c.if-limit-leads.false in
    record {
      found = node-decided row_values lead_at (workable frame.open.rate.ranged) _ _ _ _ (c.largest_key-limit.ensures ∙ limit-flagged frame.flagged) frame.flagged _ c.reach.ensures _ close _ _ _ _ c.lower-class.ensures.0
          refl c.if-lead-left.true (row_at _ _) c.decided.ensures.decided;
      sound = c.decided.ensures.sound;
    }

pub search-branches-requires : goal.search-branches-requires
unfolding lead_at
search-branches-requires t c =
    let frame = c.args.frame.now in
    let close : lead_at c.args.leads.now c.lower-class.result ≤ c.largest_key-limit.result = le_trans c.lower-class.ensures.1 c.if-limit-leads.false in
    let some = node-open row_values lead_at (workable frame.open.rate.ranged) _ c.args.leads.now _ _ (c.largest_key-limit.ensures ∙ limit-flagged frame.flagged) frame.flagged _ c.reach.ensures c.lower-class.result close c.if-lead-left.false in
    (omega (arith, c.decreases), (c.requires, some))

-- `lead` meets its contract: from n on all coefficients are zero.
use lib.Dec.{lit<}
use borrow.Author.Rules.{rules}
use Rattle.galois.specs.Gf16.{gf16}
use Rattle.functions.specs.Leading.{all-below, one_lower, lead-here, lead-nowhere}
use Rattle.division.proofs.leading.lead.Goals as goal

pub loop-n-init : goal.loop-n-init
loop-n-init c = (search rules, all-below gf16 64 _ (search rules))

pub returns-then-c-n-ne0 : goal.returns-then-c-n-ne0
returns-then-c-n-ne0 c = lead-here gf16 64 _ _ c.loop-n.invariant.1 (search rules) (search rules) c.if-c-n-ne0.true

pub loop-n-preserved : goal.loop-n-preserved
loop-n-preserved c = (search rules, one_lower gf16 64 _ _ c.loop-n.invariant.1 (search rules) (search rules))

pub returns : goal.returns
returns c = lead-nowhere gf16 64 _ _ c.loop-n.invariant.1 (lit< tt) (search rules)

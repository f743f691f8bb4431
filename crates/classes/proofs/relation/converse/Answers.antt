use Rattle.std.proofs.Common.{◌∙◌}
use Rattle.classes.specs.Matching as matching
use Rattle.classes.specs.Rows.{rows}
use Rattle.classes.proofs.Changed.{turning_start, turning_more, turning_end}
use Rattle.classes.proofs.relation.converse.Goals as goal

pub loop-x-init : goal.loop-x-init
loop-x-init c = turning_start _ _

pub mark-requires : goal.mark-requires
mark-requires c = c.loop-x.invariant.long

pub loop-x-preserved : goal.loop-x-preserved
loop-x-preserved c =
    turning_more c.loop-x.invariant c.loop-x-test.true (c.intersection-related.ensures ∙ rw c.below-all.ensures) c.insert.ensures c.mark.ensures

pub returns : goal.returns
unfolding matching.conversed rows
returns c = turning_end c.loop-x.invariant c.requires c.loop-x-test.false

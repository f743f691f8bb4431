use Rattle.std.proofs.Common.{◌∙◌, arith}
use Rattle.class_names.specs.Names as names
use Rattle.classes.specs.Rows.{padded}
use Rattle.loops.proofs.Written.{filling_start, filling_more, filling_end}
use Rattle.class_names.proofs.Naming.{lowest_lt, lowest_row}
use Rattle.class_names.proofs.class_names.Goals as goal

pub loop-x-init : goal.loop-x-init
loop-x-init c = filling_start

pub lowest-requires : goal.lowest-requires
lowest-requires c = tt

pub overflow_cast-result : goal.overflow_cast-result
overflow_cast-result c =
    let p = c.requires in
    omega (arith, c.lowest.ensures, lowest_lt _ _ _ p.0 p.1 c.loop-x-test.true)

pub loop-x-preserved : goal.loop-x-preserved
loop-x-preserved c =
    let p = c.requires in
    filling_more c.loop-x.invariant c.loop-x-test.true (omega arith) (c.lowest.ensures ∙ lowest_row _ _ _ p.0 p.1 c.loop-x-test.true)

pub returns : goal.returns
unfolding names.class_names_of padded
returns c = filling_end c.loop-x.invariant c.loop-x-test.false

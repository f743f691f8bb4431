use Rattle.std.proofs.Common.{arith}
use Rattle.classes.proofs.Filled.{filled_start, filled_more, filled_end}
use Rattle.classes.proofs.relation.rows.Goals as goal

pub loop-x-init : goal.loop-x-init
loop-x-init g c = filled_start _

pub loop-x-preserved : goal.loop-x-preserved
loop-x-preserved g c = filled_more c.loop-x.invariant (omega arith) c.row.ensures

pub returns : goal.returns
returns g c = filled_end c.loop-x.invariant (omega arith) (omega arith)

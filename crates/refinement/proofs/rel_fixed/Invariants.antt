use Rattle.std.proofs.Common.{◌+◌, ◌*◌, ◌^◌}
use Rattle.instrument.specs.Table.{table_of}
use Rattle.refinement.specs.Again.{total}
use Rattle.refinement.proofs.Fixed.{Work}
use Rattle.refinement.proofs.rel_fixed.Given as goal

abbrev pub invariant-loop-two : goal.invariant-loop-two
invariant-loop-two l = Work (table_of l.table) l.compared l.operands l.fn.mark l.one l.two

abbrev pub decreases-loop-two : goal.decreases-loop-two
decreases-loop-two l = 2 ^ l.table.states * total l.one l.two + (l.one.todo + l.two.todo)

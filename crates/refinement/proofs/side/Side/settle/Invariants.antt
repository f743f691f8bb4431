use Rattle.std.proofs.Common.{◌+◌, ◌*◌, ◌^◌, ◌<◌}
use Rattle.meaning.specs.File.Grammar.{most_states}
use Rattle.instrument.specs.Table.{table_of}
use Rattle.refinement.specs.Again.{total, Settling}
use Rattle.refinement.proofs.side.Side.settle.Given as goal

abbrev pub invariant-loop-self : goal.invariant-loop-self
invariant-loop-self l = (l.x < most_states) × Settling (table_of l.on.table) l.on.mark l.initial.self l.initial.other l.self l.other

abbrev pub decreases-loop-self : goal.decreases-loop-self
decreases-loop-self l = 2 ^ l.on.table.states * total l.self l.other + l.self.todo

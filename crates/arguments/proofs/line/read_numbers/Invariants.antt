use Rattle.std.proofs.Common.{length, ◌+◌, ◌-◌}
use Rattle.arguments.specs.Words.{Taken}
use Rattle.arguments.proofs.line.read_numbers.Given as goal

abbrev pub invariant-loop-at : goal.invariant-loop-at
invariant-loop-at l = Taken l.line l.from l.at l.numbers.items

abbrev pub decreases-loop-at : goal.decreases-loop-at
decreases-loop-at l = length l.line + 1 - l.at

use Rattle.instrument.specs.Delivered.{delivered}
use Rattle.partitions.specs.Progress.{Summing}
use Rattle.partitions.proofs.state_sum.Given as goal

abbrev pub invariant-loop-states : goal.invariant-loop-states
invariant-loop-states l = Summing (delivered l.fn.t) l.states-index l.sum

use Rattle.partitions.specs.Progress.{Writing}
use Rattle.partitions.proofs.write_classes.Given as goal

abbrev pub invariant-loop-c : goal.invariant-loop-c
invariant-loop-c l = Writing l.t.outline.now.components l.t.outline.now.states l.names l.initial.out l.c l.place l.out

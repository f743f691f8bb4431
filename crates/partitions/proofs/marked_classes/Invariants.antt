use Rattle.instrument.specs.Delivered.{delivered}
use Rattle.instrument.specs.Roots.{listed_roots}
use Rattle.partitions.specs.Progress.{Naming}
use Rattle.partitions.proofs.marked_classes.Given as goal

abbrev pub invariant-loop-c : goal.invariant-loop-c
invariant-loop-c l = Naming (delivered l.fn.t) l.marks l.read (listed_roots l.roots) l.c l.names

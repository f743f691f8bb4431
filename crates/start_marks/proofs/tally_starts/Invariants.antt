use Rattle.start_marks.specs.Progress.{Tallied}
use Rattle.start_marks.proofs.tally_starts.Given as goal

abbrev pub invariant-loop-j : goal.invariant-loop-j
invariant-loop-j l = Tallied l.passes l.fails l.fn.t.starts l.n l.fn.t.startcount l.j l.failing l.passing

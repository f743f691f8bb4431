use Rattle.classes.specs.Changed.{Turning}
use Rattle.classes.proofs.relation.converse.Given as goal

abbrev pub invariant-loop-x : goal.invariant-loop-x
invariant-loop-x l = Turning l.states l.r l.result l.x

use Rattle.meaning.specs.Reference.Tests.{lowest}
use Rattle.loops.specs.Written.{Filling}
use Rattle.classes.specs.Rows.{rel}
use Rattle.class_names.proofs.class_names.Given as goal

abbrev pub invariant-loop-x : goal.invariant-loop-x
invariant-loop-x l = Filling l.initial.result 0 l.states (λ x. lowest l.states (rel l.r x)) l.x l.result

use Rattle.std.proofs.Common.{get_or}
use Rattle.meaning.specs.Classes.{classes_below}
use Rattle.loops.specs.Folded.{Folded}
use Rattle.class_names.proofs.class_count.Given as goal

abbrev pub invariant-loop-c : goal.invariant-loop-c
invariant-loop-c l = Folded l.states (classes_below (λ x. get_or l.names x 0)) l.c l.count

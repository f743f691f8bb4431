use Rattle.std.proofs.Common.{eqb, get_or}
use Rattle.loops.specs.Building.{Building}
use Rattle.class_names.proofs.member_word.Given as goal

abbrev pub invariant-loop-x : goal.invariant-loop-x
invariant-loop-x l = Building l.states (λ x. eqb (get_or l.names x 0) l.c) l.x l.result

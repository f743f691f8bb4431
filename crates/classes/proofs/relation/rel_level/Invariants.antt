use Rattle.std.proofs.Common.{get_or}
use Rattle.words.specs.Sets.{has}
use Rattle.loops.specs.Building.{Building}
use Rattle.classes.proofs.relation.rel_level.Given as goal

abbrev pub invariant-loop-y : goal.invariant-loop-y
invariant-loop-y l = Building l.states (λ y. has (get_or l.outs y 0) l.j) l.y l.high

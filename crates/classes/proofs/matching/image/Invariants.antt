use Rattle.classes.specs.Loops.{Joining}
use Rattle.classes.proofs.matching.image.Given as goal

abbrev pub invariant-loop-v : goal.invariant-loop-v
invariant-loop-v l = Joining l.w l.r l.result l.v-iterator.left

use Rattle.words.specs.Passing.{Filtering}
use Rattle.state_words.proofs.filtered.filter.Given as goal

abbrev pub invariant-loop-y : goal.invariant-loop-y
invariant-loop-y g l = Filtering (λ y b. goal.F-post g l.test y b) l.w l.result l.y-iterator.left

use Rattle.std.proofs.Common.{◌≡◌, take}
use Rattle.meaning.specs.File.Grammar.{with_all}
use Rattle.subformulas.proofs.root_set.Given as goal

abbrev pub invariant-loop-root : goal.invariant-loop-root
invariant-loop-root l = l.set ≡ with_all 0 (take l.root-index l.root-items)

use Rattle.std.proofs.Common.{◌≡◌, take}
use Rattle.relations.specs.Relations.{related_by}
use Rattle.relations.proofs.related_by.Given as goal

abbrev pub invariant-loop-root : goal.invariant-loop-root
invariant-loop-root l = l.all ≡ related_by l.states l.relations (take l.root-index l.root-items)

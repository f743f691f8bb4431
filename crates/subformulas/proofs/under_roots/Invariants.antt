use Rattle.std.proofs.Common.{◌≡◌, ℕ, ◌^◌, ◌<◌, List}
use Rattle.meaning.specs.Atoms.{Atom}
use Rattle.meaning.specs.Nodes.{Node}
use Rattle.meaning.specs.Tests.{All}
use Rattle.meaning.specs.File.Grammar.{with_all}
use Rattle.marks.specs.NodeMarks.{Listing}
use Rattle.subformulas.specs.Under.{Reaching}
use Rattle.subformulas.proofs.under_roots.Given as goal

abbrev pub invariant-loop-k : goal.invariant-loop-k
invariant-loop-k l =
    (l.set < 2 ^ 32)
    × ((ns : List (Node Atom)) → Listing l.nodes l.count ns → (roots : List ℕ) → All (λ r. r < l.count) roots → l.initial.set ≡ with_all 0 roots → Reaching ns roots l.k l.set)

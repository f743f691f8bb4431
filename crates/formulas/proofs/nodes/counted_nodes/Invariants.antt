use Rattle.std.proofs.Common.{◌≡◌, List, map, ◌+◌}
use lib.Seq.{sets}
use Rattle.meaning.specs.Atoms.{Atom}
use Rattle.meaning.specs.Nodes as formula
use Rattle.meaning.specs.File.Grammar.{node, limits}
use Rattle.parsing.proofs.Faults.{Reading}
use Rattle.instrument.specs.Layout.{node_of}
use Rattle.formulas.proofs.nodes.counted_nodes.Given as goal

abbrev pub invariant-loop-k : goal.invariant-loop-k
invariant-loop-k l =
    Reading (node limits l.w l.driven) (λ k a. k + 1) l.initial.place.file.now l.count 0 l.initial.place.at
    (λ (ns : List (formula.Node Atom)). l.nodes ≡ sets l.initial.nodes 0 (map node_of ns)) l.k l.k l.place.file.now l.place.at

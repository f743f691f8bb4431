-- The formula and the starts in the stages of the code. That they are the grammar's is proved in proofs/Grammar.
use Rattle.std.specs.Prelude.{List, [], ◌∷◌, ◌++◌, map, length, ℕ}
use Rattle.meaning.specs.Atoms.{Atom}
use Rattle.meaning.specs.Nodes.{Node}
use Rattle.meaning.specs.File.Parser.{◌>>=◌, give}
use Rattle.meaning.specs.File.Grammar.{Contents, limits, between, node, start, driven_by}
use Rattle.parsing.specs.Stages.{Stage, times}

-- contents with one node more, or one start
abbrev pub with_node : Contents → Node Atom → Contents
with_node k a = record { signals = k.signals; components = k.components; nodes = k.nodes ++ (a ∷ []); starts = k.starts; sets = k.sets }

abbrev pub with_start : Contents → List ℕ → Contents
with_start k s = record { signals = k.signals; components = k.components; nodes = k.nodes; starts = k.starts ++ (s ∷ []); sets = k.sets }

abbrev pub add_node : Stage
add_node k = do
  a ← node limits k.signals (driven_by 0 k.components) (length k.nodes)
  give (with_node k a)

abbrev pub add_start : Stage
add_start k = do
  s ← start limits (map (λ c. c.states) k.components)
  give (with_start k s)

-- a count, and so many of them
abbrev pub read_nodes : Stage
read_nodes k = do
  n ← between limits 1 limits.nodes 3
  times n add_node k

abbrev pub read_starts : Stage
read_starts k = do
  n ← between limits 0 limits.starts 3
  times n add_start k

-- A node that was read, as its kind and operands; so many nodes, and so many starts (document 01, The instrument file).
use Rattle.std.specs.Prelude.{List, map, length, replicate, ℕ, ◌+◌}
use Rattle.std.proofs.lemmas.List.Edits.{sets}
use Rattle.meaning.specs.Atoms.{Atom}
use Rattle.meaning.specs.Nodes as formula
use Rattle.meaning.specs.Nodes.{top}
use Rattle.meaning.specs.File.Parser.{Parser, ◌>>=◌, give, list_of, repeat}
use Rattle.meaning.specs.File.Grammar.{limits, between, earlier, nodes, start_state}
use Rattle.instrument.specs.declared.Node.{Node}
use Rattle.instrument.specs.Layout.{node_of, rows_of}
use Rattle.formulas.specs.declared.nodes.NodeList.{NodeList}
use Rattle.formulas.specs.declared.starts.StartList.{StartList}

abbrev pub one_operand : ℕ → ℕ → Node
one_operand kind a = record { kind = kind; left = a; right = 0 }

-- a node k of two operands, both earlier nodes
abbrev pub two_operands : ℕ → ℕ → Parser Node
two_operands kind k = do
  a ← earlier limits k
  b ← earlier limits k
  give (record { kind = kind; left = a; right = b })

-- the array of a formula's nodes, and the array of the starts (specs/Layout of crate instrument)
abbrev pub node_array : List (formula.Node Atom) → List Node
node_array ns = sets (replicate limits.nodes (node_of top)) 0 (map node_of ns)

abbrev pub start_array : List (List ℕ) → List ℕ
start_array ss = rows_of limits.starts limits.components ss

-- how many there are, and the array that has them
abbrev pub node_list : List (formula.Node Atom) → NodeList
node_list ns = record { count = length ns; nodes = node_array ns }

abbrev pub start_list : List (List ℕ) → StartList
start_list ss = record { count = length ss; starts = start_array ss }

-- a start: a state of each of n components of these sizes
abbrev pub start_by : List ℕ → ℕ → Parser (List ℕ)
start_by sizes n = list_of (start_state limits sizes) (λ c v. c + 1) n 0

-- a count and so many nodes, over 𝓛 signals of which these are driven; a count and so many starts
abbrev pub all_nodes : ℕ → ℕ → Parser (List (formula.Node Atom))
all_nodes W driven = do
  n ← between limits 1 limits.nodes 3
  nodes limits W driven n

abbrev pub all_starts : List ℕ → ℕ → Parser (List (List ℕ))
all_starts sizes n = do
  m ← between limits 0 limits.starts 3
  repeat (start_by sizes n) m

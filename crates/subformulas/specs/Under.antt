-- Sets of a formula's nodes as words, bit k for node k: the roots and the nodes under them, and the way down from the roots, a set that grows by
-- operands.
use Rattle.std.specs.Prelude.{List, T, length, ℕ, ◌≤◌}
use Rattle.words.specs.Sets.{has, built}
use Rattle.meaning.specs.Tests.{All, Any}
use Rattle.meaning.specs.Atoms.{Atom}
use Rattle.meaning.specs.Nodes as formula
use Rattle.meaning.specs.Nodes.{node_at, Operand, Beneath}
use Rattle.meaning.specs.File.Grammar.{with_all}
use Rattle.meaning.specs.Reference.Nodes.{operands}
use Rattle.meaning.specs.Roots.{under_roots_b}
use Rattle.instrument.specs.declared.Node.{Node}
use Rattle.instrument.specs.ByKind.{stored_node, of_known}

-- the roots and the nodes under them
unfoldable pub under_roots : List (formula.Node Atom) → List ℕ → ℕ
under_roots nodes roots = built (length nodes) (under_roots_b nodes roots)

-- the operands of each node in the set are in it
pub record Closed (nodes : List (formula.Node Atom)) (set : ℕ) : Type 0 where
  pub operands : (k i : ℕ) → T (has set k) → Operand i (node_at nodes k) → T (has set i)

-- a set and the operands of a node besides; an unknown node has none
abbrev pub with_operands : ℕ → Node → ℕ
with_operands set node = of_known set (stored_node node) (λ m. with_all set (operands m))

-- how far the way down is: the roots and only nodes under them are in the set, and the operands of all members from node k on
pub record Reaching (nodes : List (formula.Node Atom)) (roots : List ℕ) (k set : ℕ) : Type 0 where
  pub reached : k ≤ length nodes
  pub begun : All (λ r. T (has set r)) roots
  pub under : (j : ℕ) → T (has set j) → Any (λ r. Beneath nodes j r) roots
  pub closed : (j i : ℕ) → k ≤ j → T (has set j) → Operand i (node_at nodes j) → T (has set i)

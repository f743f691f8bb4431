-- The contents of an instrument file, and what the reader promises of them (document 01, The instrument file and Refused).
use Rattle.std.specs.Prelude.{◌≡◌, ◌≢◌, List, [], length, get_or, T, ℕ, ◌-◌, ◌<◌}
use Rattle.meaning.specs.Atoms.{Atom, Set, on_signal}
use Rattle.meaning.specs.Tests.{listed, All}
use Rattle.meaning.specs.Table.{Table, owns, Total, from_words}
use Rattle.meaning.specs.Formula.{Formula}
use Rattle.meaning.specs.Nodes.{Node, atom, formula_at, node_at, Earlier}

pub record Instrument : Type 0 where
  -- signals are the numbers below this
  pub signals : ℕ
  pub tables : List Table
  pub nodes : List (Node Atom)
  -- a start (document 01's term) is a combined state to judge: a state for each component, in order
  pub starts : List (List ℕ)
  -- the named sets of combined states; an instrument file holds none
  pub sets : List Set

-- the number of components, and each one's table
abbrev pub components : Instrument → ℕ
components I = length I.tables

abbrev pub table : Instrument → ℕ → Table
table I i = get_or I.tables i (from_words 0 [] [] [] [])

-- the root is the last node; its formula is the requirement
abbrev pub root_node : Instrument → ℕ
root_node I = length I.nodes - 1

abbrev pub root_formula : Instrument → Formula Atom
root_formula I = formula_at I.nodes (root_node I)

-- n tables over the signals below 𝓛 that work together
pub record WellFormed (n : ℕ) (S : ℕ → Table) (W : ℕ) : Type 0 where
  -- each has a state, and no empty successor set
  pub some : (i : ℕ) → i < n → 0 < (S i).states
  pub total : (i : ℕ) → i < n → Total (S i)
  -- no signal is driven by two, and none is an output and an input of one
  pub apart : (i j : ℕ) → i < n → j < n → j ≢ i → (w : ℕ) → T (owns (S i) w) → T (owns (S j) w) → ⊥
  pub own : (i : ℕ) → i < n → (w : ℕ) → T (owns (S i) w) → T (listed (S i).inputs w) → ⊥
  -- an input is a signal of the file
  pub small : (i : ℕ) → i < n → (w : ℕ) → T (listed (S i).inputs w) → w < W

-- a start has one state of each component
abbrev pub IsStart : Instrument → List ℕ → Type 0
IsStart I start = (length start ≡ components I) × ((i : ℕ) → i < components I → get_or start i 0 < (table I i).states)

-- what the theory needs of an accepted file
pub record Accepted (I : Instrument) : Type 0 where
  pub well_formed : WellFormed (components I) (table I) I.signals
  pub earlier : Earlier I.nodes
  -- there is a root
  pub rooted : 0 < length I.nodes
  -- a component drives each signal that a node names
  pub driven : (k w : ℕ) → node_at I.nodes k ≡ atom (on_signal w) → (i : ℕ) × (i < components I) × T (owns (table I i) w)
  pub starts : All (IsStart I) I.starts

-- A partner of the table t (document 01, Marks): it has a state, moves on every assignment and drives none of t's outputs.
pub record Partner (t p : Table) : Type 0 where
  pub some : 0 < p.states
  pub total : Total p
  pub apart : (w : ℕ) → T (owns t w) → T (owns p w) → ⊥

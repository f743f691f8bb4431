-- What the reader promises of an instrument, as tests.
use Rattle.std.specs.Prelude.{Bool, true, not, ◌&&◌, ◌||◌, length, get_or, List, eqb, ltb, ℕ}
use Rattle.meaning.specs.Atoms.{Atom, on_signal}
use Rattle.meaning.specs.Tests.{any_below, listed}
use Rattle.meaning.specs.Table.{Table, assignments, owns}
use Rattle.meaning.specs.Nodes.{Node, top, atom, neg, or, ex, eg, eu, node_at}
use Rattle.meaning.specs.Instrument.{Instrument, components, table}
use Rattle.meaning.specs.Reference.Tests.{all_below, all_of}
use Rattle.meaning.specs.Reference.Nodes.{earlier_b}
use Rattle.meaning.specs.Reference.Marks.{on_b}

abbrev pub total_b : Table → Bool
total_b t = all_below t.states (λ x. all_below (assignments t) (λ a. on_b t (λ y. true) x a))

module _ (n : ℕ) (S : ℕ → Table) (W : ℕ) where
  abbrev pub apart_b : ℕ → ℕ → Bool
  apart_b i j = eqb j i || all_of (λ w. not (owns (S j) w)) (S i).outputs

  abbrev pub own_b : ℕ → Bool
  own_b i = all_of (λ w. not (listed (S i).inputs w)) (S i).outputs

  abbrev pub small_b : ℕ → Bool
  small_b i = all_of (λ w. ltb w W) (S i).inputs

  abbrev pub component_b : ℕ → Bool
  component_b i = ltb 0 (S i).states && (total_b (S i) && (all_below n (apart_b i) && (own_b i && small_b i)))

  abbrev pub well_formed_b : Bool
  well_formed_b = all_below n component_b

abbrev pub is_start_b : Instrument → List ℕ → Bool
is_start_b I start = eqb (length start) (components I) && all_below (components I) (λ i. ltb (get_or start i 0) (table I i).states)

-- some component drives the signal that the node names, if it names one
abbrev pub named_b : Instrument → Node Atom → Bool
named_b I top = true
named_b I (atom (on_signal w)) = any_below (components I) (λ i. owns (table I i) w)
named_b I (neg i) = true
named_b I (or i j) = true
named_b I (ex i) = true
named_b I (eg i) = true
named_b I (eu i j) = true

abbrev pub accepted_b : Instrument → Bool
accepted_b I =
    well_formed_b (components I) (table I) I.signals
    && (earlier_b I.nodes
    && (ltb 0 (length I.nodes) && (all_below (length I.nodes) (λ k. named_b I (node_at I.nodes k)) && all_of (is_start_b I) I.starts)))

-- The marks of every component and node: the rule that a node's kind picks, a formula's nodes on one component, and all components (document
-- 01, Marks and The instrument file).
use Rattle.std.specs.Prelude.{◌≡◌, List, [], ◌∷◌, length, get_or, replicate, ℕ, ◌%◌, ◌≤◌}
use Rattle.std.proofs.lemmas.List.Edits.{sets}
use Rattle.meaning.specs.Atoms.{Atom, on_signal}
use Rattle.meaning.specs.Formula.{atom}
use Rattle.meaning.specs.Nodes as formula
use Rattle.meaning.specs.Nodes.{Earlier, node_at, formula_at}
use Rattle.meaning.specs.Table.{Table, from_words}
use Rattle.meaning.specs.Instrument as meaning
use Rattle.meaning.specs.Instrument.{components, table}
use Rattle.meaning.specs.File.Grammar.{Contents, instrument_of, limits}
use Rattle.meaning.specs.View.{View, atoms}
use Rattle.meaning.specs.Seen.{view_of}
use Rattle.meaning.specs.Reference.Rules.{Rules}
use Rattle.meaning.specs.Reference.Answers.{list_below, join_below}
use Rattle.instrument.specs.declared.Node.{Node}
use Rattle.instrument.specs.declared.Instrument.{Instrument}
use Rattle.instrument.specs.Layout.{node_of}
use Rattle.instrument.specs.ByKind.{kind_has}
use Rattle.instrument.specs.Described.{Describes}
use Rattle.mark_rules.specs.declared.Mark.{Mark}
use Rattle.instrument.specs.declared.component.Component.{Component}
use Rattle.instrument.specs.Component.{reading_table}
use Rattle.instrument.specs.Table.{table_of}
use Rattle.marks.specs.Formulas.{formula_mark, Sees}
use Rattle.marks.specs.Written.{Written}
use Rattle.mark_rules.specs.Rules.{true_mark, not_mark, or_mark, ex_mark, eg_mark, eu_mark}

-- no state is marked
abbrev pub no_mark : Mark
no_mark = record { pass = 0; fail = 0 }

-- own and foreign signals: the marks look at the outputs of a table alone
unfoldable pub signal_mark : ℕ → List ℕ → List ℕ → ℕ → Mark
signal_mark states outputs outs w = let t = from_words states [] outputs outs [] in formula_mark t (atoms t.out t) (atom (on_signal w))

-- the rules of the constructors, on a component
module _ (r : Component) where
  abbrev atom_mark : Atom → Mark
  atom_mark (on_signal w) = signal_mark r.table.states r.outputs.now r.outs.now w

  abbrev pub mark_rules : Rules Atom Mark
  mark_rules =
      let t = table_of r.table in
      record { top = true_mark r.table.states; atom = atom_mark; neg = not_mark; or = or_mark; ex = ex_mark t; eg = eg_mark t; eu = eu_mark t }

  -- the marks of a node, from the marks of its operands; no known kind, no mark
  abbrev pub rule_mark : Node → Mark → Mark → Mark
  rule_mark node a b = kind_has no_mark mark_rules node.kind node.left a b

-- the marks of an operand among those of all nodes so far; what is no operand may be past the last place
abbrev pub operand_mark : List Mark → ℕ → Mark
operand_mark marks i = get_or marks (i % limits.nodes) no_mark

-- an array that lists a formula's nodes, with their count
pub record Listing (nodes : List Node) (count : ℕ) (ns : List (formula.Node Atom)) : Type 0 where
  pub at : (k : ℕ) → get_or nodes k (node_of formula.Node.top) ≡ node_of (node_at ns k)
  pub long : count ≡ length ns
  pub room : length ns ≤ limits.nodes
  pub earlier : Earlier ns

-- the marks of a table for each of a formula's nodes, no mark past the last one
unfoldable pub list_marks : Table → View Atom → List (formula.Node Atom) → List Mark
list_marks t κ ns = sets (replicate limits.nodes no_mark) 0 (list_below (length ns) (λ k. formula_mark t κ (formula_at ns k)))

-- The marks of a component for all nodes, whichever formula the list has and in whatever view sees the component's signals; inputs are
-- counted, and may be any that many.
abbrev pub MarkedNodes : Component → List Node → List Mark → Type 0
MarkedNodes r nodes m =
    (ins : List ℕ) → length ins ≡ r.table.inputs → let t = reading_table r ins in
    (κ : View Atom) → Sees t κ → (ns : List (formula.Node Atom)) → Listing nodes (length nodes) ns → m ≡ list_marks t κ ns

-- how far a loop over the nodes is: the first k are marked
pub record Marking (r : Component) (nodes : List Node) (k : ℕ) (m : List Mark) : Type 0 where
  pub reached : k ≤ length nodes
  pub each : (ins : List ℕ) → length ins ≡ r.table.inputs → let t = reading_table r ins in
      (κ : View Atom) → Sees t κ → (ns : List (formula.Node Atom)) → Listing nodes (length nodes) ns
      → Written (replicate limits.nodes no_mark) 0 (length nodes) (λ k. formula_mark t κ (formula_at ns k) ∷ []) k m

-- the marks of all components, no mark past the last one
unfoldable pub marks_of : meaning.Instrument → List (List Mark)
marks_of I =
    sets (replicate limits.components (replicate limits.nodes no_mark)) 0
    (list_below (components I) (λ i. list_marks (table I i) (view_of I i) I.nodes))

-- how far a loop over the components is: the first i are marked
pub record MarkingAll (t : Instrument) (i : ℕ) (m : List (List Mark)) : Type 0 where
  pub reached : i ≤ t.components
  pub each : (k : Contents) → Describes t k
      → Written (replicate limits.components (replicate limits.nodes no_mark)) 0 t.components
      (λ i. list_marks (table (instrument_of k) i) (view_of (instrument_of k) i) k.nodes ∷ []) i m

-- a mark as words, PASS then FAIL, and so many marks
abbrev pub pair_at : List Mark → ℕ → List ℕ
pair_at row k = (get_or row k no_mark).pass ∷ (get_or row k no_mark).fail ∷ []

abbrev pub row_words : List Mark → ℕ → List ℕ
row_words row count = join_below count (pair_at row)

-- The classes of every component's states at a list of roots (document 01, Classes: at the root).
use Rattle.std.specs.Prelude.{◌≡◌, List, get_or, replicate, ℕ, zero, suc, ◌+◌}
use Rattle.std.proofs.lemmas.List.Edits.{sets}
use Rattle.meaning.specs.Atoms.{Atom}
use Rattle.meaning.specs.Table.{Table}
use Rattle.meaning.specs.Formula.{Formula}
use Rattle.meaning.specs.View.{View}
use Rattle.meaning.specs.Seen.{view_of}
use Rattle.meaning.specs.Roots.{root_alone, root_formulas, roots_class}
use Rattle.meaning.specs.Instrument as meaning
use Rattle.meaning.specs.Instrument.{components, table}
use Rattle.meaning.specs.File.Grammar.{Contents, instrument_of, limits, most_states}
use Rattle.meaning.specs.Reference.Answers.{list_below}
use Rattle.instrument.specs.declared.Instrument.{Instrument}
use Rattle.instrument.specs.Described.{Describes}
use Rattle.mark_rules.specs.declared.Mark.{Mark}
use Rattle.marks.specs.NodeMarks.{marks_of}
use Rattle.classes.specs.Rows.{padded}

-- "Classes are taken at the root": the name of state x at x, and 0 past the states. They depend on the component's own table, what it sees, the
-- nodes and the roots, and on nothing else.
unfoldable pub table_classes : Table → View Atom → List (Formula Atom) → List ℕ
table_classes t κ ρs = padded most_states t.states (roots_class t κ ρs)

-- of component c
abbrev pub component_classes : meaning.Instrument → List ℕ → ℕ → List ℕ
component_classes I roots c = table_classes (table I c) (view_of I c) (root_formulas I roots)

-- of no component
abbrev pub no_names : List ℕ
no_names = replicate most_states 0

-- of all components, 0 past the last one
unfoldable pub classes_of : meaning.Instrument → List ℕ → List (List ℕ)
classes_of I roots = sets (replicate limits.components no_names) 0 (list_below (components I) (component_classes I roots))

-- the same at document 01's root
abbrev pub root_classes_of : meaning.Instrument → List (List ℕ)
root_classes_of I = classes_of I (root_alone I)

-- f 0 + f 1 + .. + f (n - 1); the number of the components' states together, a name for each
abbrev pub sum_below : ℕ → (ℕ → ℕ) → ℕ
sum_below zero f = 0
sum_below (suc n) f = sum_below n f + f n

abbrev pub state_sum : Instrument → ℕ
state_sum t = sum_below t.components (λ i. get_or t.states i 0)

-- the instrument describes a file's contents, and the marks are those of all its components
pub record MarkedInstrument (t : Instrument) (marks : List (List Mark)) (k : Contents) : Type 0 where
  pub describes : Describes t k
  pub marked : marks ≡ marks_of (instrument_of k)

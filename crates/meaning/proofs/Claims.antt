-- What is proved of document 01, in the order of the demands: over its atoms (signals), what it compares (whole output words) and the classes
-- of its one root. The general theorems behind it are those of Demands, Marks/Partners and Classes/Described. Of document 02: the cases of 12/14, the spellings of 2/14 and,
-- last, 6/14.
use mathlib.Core.Path.{◌≡◌, refl}
use mathlib.Core.Logic.{◌↔◌}
use mathlib.Core.List.{List}
use lib.Dec.{T}
use Prim.Native.Nat.{◌<◌, ◌≤◌, ℕ}
use Rattle.meaning.specs.Atoms.{Atom}
use Rattle.meaning.specs.Classes.{ClassNames}
use Rattle.meaning.specs.Combination.{State, Truth, count, high, index}
use Rattle.meaning.specs.File.Grammar.{Contents, instrument_of, read_file}
use Rattle.meaning.specs.File.Parser.{found}
use Rattle.meaning.specs.Formula.{Formula}
use Rattle.meaning.specs.Instrument.{Accepted, Instrument, WellFormed, components, root_formula, root_node, table}
use Rattle.meaning.specs.Marks.{Fail, Pass}
use Rattle.meaning.specs.Merged.{MergedOf, MergedTruth, lowest_states, merged_count_of, merged_index, merged_sizes, merged_tables}
use Rattle.meaning.specs.Nodes.{Beneath, formula_at}
use Rattle.meaning.specs.Reference.Merged.{lookup_b, merged_b}
use Rattle.meaning.specs.Reference.Truth.{truth_b}
use Rattle.meaning.specs.Reference.Verdict.{root_classes, verdict_b}
use Rattle.meaning.specs.Relation.{Rel}
use Rattle.meaning.specs.Table.{Table}
use Rattle.meaning.specs.Verdict.{Right}
use Rattle.meaning.specs.View.{View}
use Rattle.meaning.specs.Seen.{value_of, view_of}
use Rattle.meaning.proofs.Classes.Described.{Described}
use Rattle.meaning.proofs.Demands.{described_inside, full_onto, full_way, lookup_paths, marks_inside, merged_bits, merged_index_lem}
use Rattle.meaning.proofs.Demands.{merged_paths, merged_state_lem, no_clash, root_class_names, root_equivalence, under_kept}
use Rattle.meaning.proofs.Demands.{verdict_right}
use Rattle.meaning.proofs.File.Accepted.{file_accepted}
use Rattle.meaning.proofs.File.Formulas.{Under}
use Rattle.meaning.proofs.File.Nodes.{beneath_under}
use Rattle.meaning.proofs.Marks.Laws.{Fits}
use Rattle.meaning.proofs.Marks.Atoms.{value_local, view_fit}
-- DEMAND 3, marks beside partners: marks_beside by the meaning, computed_beside of what is computed
pub use Rattle.meaning.proofs.Marks.Partners.{marks_beside, computed_beside, other_partners}
-- what Described says of one table: sets largest and least, relations largest, names of classes
pub use Rattle.meaning.proofs.Classes.Described.{Described, described}
-- related for a signal: foreign, or the same level
pub use Rattle.meaning.proofs.Marks.Atoms.{rel_signal}
-- FAIL of EU, between document 01's words and the form used
pub use Rattle.meaning.proofs.Marks.Stays.{Words, AtEach, words_each, each_words, each_classical}
-- nodes: each node's formula from its operands' formulas; what stands under the root
pub use Rattle.meaning.proofs.File.Nodes.{formula_at_lem, beneath_under}
-- the index of a combined state and back
pub use Rattle.meaning.proofs.Meaning.Index.{index_lt, part_lt, part_index, index_part}
-- there is one right answer for a list of starts
pub use Rattle.meaning.proofs.Verdict.{right_unique}
-- the starred bench cases
pub use Rattle.meaning.proofs.Cases.{starred}
-- 12/14: oversized, malformed and unended numbers at every field, components of 64 states
pub use Rattle.meaning.proofs.WideCases.{wide}
-- 2/14: a file says what it writes with empty sets filled; what follows on a state; spelled-out stays change nothing of what it says
pub use Rattle.meaning.proofs.File.Filled.{read_filled}
pub use Rattle.meaning.proofs.File.Spelling.{says_filled, follows, stay_filled, same_filled, same_said}
pub use Rattle.meaning.proofs.StayCases.{stays}
-- what the guard and the promise of no dead end are for
pub use Rattle.meaning.proofs.Counterexamples.{unguarded, guarded, dead_end}

-- an instrument as the reader accepts it
module _ (I : Instrument) (accepted : Accepted I) where
  abbrev n : ℕ
  n = components I

  abbrev S : ℕ → Table
  S = table I

  abbrev W : ℕ
  W = I.signals

  abbrev κ : ℕ → View Atom
  κ = view_of I

  abbrev ρ : Formula Atom
  ρ = root_formula I

  abbrev node : ℕ → Formula Atom
  node k = formula_at I.nodes k

  abbrev good : WellFormed n S W
  good = accepted.well_formed

  fits : Fits n S (value_of I) κ
  fits = view_fit I accepted

  -- the classes at the root
  abbrev cls : ℕ → ℕ → ℕ
  cls = root_classes n S κ ρ

  -- DEMAND 2: the bit computed for node k at the index of a combined state is its truth by paths there
  pub full_01 : (k : ℕ) (s : State n S) → T (truth_b n S W (value_of I) (node k) (index n (λ i. (S i).states) s.at)) ↔ Truth n S (value_of I) (node k) s
  full_01 k = full_way n S W good (value_of I) (value_local I) (node k)

  pub full_index_01 : (x : ℕ) → x < count n (λ i. (S i).states) → (s : State n S) × (index n (λ i. (S i).states) s.at ≡ x)
  full_index_01 = full_onto n S W good

  -- DEMAND 3: marks, relations and classes of every component are document 01's
  pub described_01 : (i : ℕ) → i < n → Described (S i) (κ i)
  described_01 = described_inside n S W good (value_of I) κ fits

  pub classes_01 : (i : ℕ) → i < n → ClassNames (S i) (Rel (S i) (κ i) ρ) (cls i)
  classes_01 = root_class_names n S W good (value_of I) κ fits ρ

  -- marks are right in the instrument itself, and no combined state is PASS by one component and FAIL by another, for any node
  pub marks_01 : (i : ℕ) → i < n → (k : ℕ) (s : State n S)
      → (Pass (S i) (κ i) (node k) (s.at i) → Truth n S (value_of I) (node k) s)
      × (Fail (S i) (κ i) (node k) (s.at i) → Truth n S (value_of I) (node k) s → ⊥)
  marks_01 i l k = marks_inside n S W good (value_of I) κ fits i l (node k)

  pub no_clash_01 : (k : ℕ) (s : State n S) (i j : ℕ) → i < n → j < n → Pass (S i) (κ i) (node k) (s.at i) → Fail (S j) (κ j) (node k) (s.at j) → ⊥
  no_clash_01 k = no_clash n S W good (value_of I) κ fits (node k)

  -- DEMAND 3: for the root and every node under it, guarded truth by paths in the merged combination, at the merged state of a combined
  -- state, is truth by paths in that combined state on the delivered tables. No bound on the full combination is asked for.
  pub merged_01 : (k : ℕ) → Beneath I.nodes k (root_node I) → (s : State n S) (c : State n (merged_tables n S cls)) → MergedOf n S cls s c
      → MergedTruth n S cls κ (value_of I) (node k) c ↔ Truth n S (value_of I) (node k) s
  merged_01 k b =
      merged_paths n S W good (value_of I) κ fits (λ i. Rel (S i) (κ i) ρ) (root_equivalence n S W good (value_of I) κ fits ρ) cls classes_01 (node k)
      (under_kept n S W good (value_of I) κ fits ρ (node k) (beneath_under I.nodes accepted.earlier k (root_node I) b))

  -- a signal's value in a merged state is that of the merged tables' own outputs
  pub merged_signals_01 : (w : ℕ) (c : ℕ → ℕ) → high n (merged_tables n S cls) w c ≡ high n S w (lowest_states n S cls c)
  merged_signals_01 w c = refl

  -- every combined state has a merged state; every number below the merged count is the index of one
  pub merged_state_01 : (s : State n S) → (c : State n (merged_tables n S cls)) × MergedOf n S cls s c
  merged_state_01 =
      merged_state_lem n S W good (value_of I) κ fits (λ i. Rel (S i) (κ i) ρ) (root_equivalence n S W good (value_of I) κ fits ρ) cls classes_01

  pub merged_index_01 : (x : ℕ) → x < merged_count_of n S cls → (s : State n S) × (merged_index n S cls s.at ≡ x)
  merged_index_01 =
      merged_index_lem n S W good (value_of I) κ fits (λ i. Rel (S i) (κ i) ρ) (root_equivalence n S W good (value_of I) κ fits ρ) cls classes_01

  -- the bit computed at the index of a merged state is the guarded truth by paths there
  pub merged_bits_01 : (k : ℕ) (c : State n (merged_tables n S cls))
      → T (merged_b n S cls κ (value_of I) W (node k) (index n (merged_sizes n S cls) c.at)) ↔ MergedTruth n S cls κ (value_of I) (node k) c
  merged_bits_01 k =
      merged_bits n S W good (value_of I) κ fits (λ i. Rel (S i) (κ i) ρ) (root_equivalence n S W good (value_of I) κ fits ρ) cls classes_01 (node k)

  -- the lookup's answer is the truth by paths of the root in the asked combined state
  pub lookup_01 : (s : State n S) → T (lookup_b n S cls κ (value_of I) W ρ s.at) ↔ Truth n S (value_of I) ρ s
  lookup_01 =
      lookup_paths n S W good (value_of I) κ fits (λ i. Rel (S i) (κ i) ρ) (root_equivalence n S W good (value_of I) κ fits ρ) cls classes_01 ρ
      (under_kept n S W good (value_of I) κ fits ρ ρ Under.itself)

  -- the verdict on combined states is the right one
  pub verdict_01 : (ss : List (State n S))
      → Right n S κ ρ (Truth n S (value_of I) ρ) (λ s. s) ss (merged_count_of n S cls ≤ 4096)
      (verdict_b n S κ ρ 4096 W (value_of I) (λ s. s.at) ss)
  verdict_01 = verdict_right n S W good (value_of I) κ fits ρ 4096 (λ s. s)

-- REQUEST 6/14: no accepted file has a combined state that is PASS for a node by one component and FAIL for the same node by another
pub never_clashes : (file : List ℕ) (c : Contents) (e : ℕ) → read_file file ≡ found c e → let I = instrument_of c in
    (k : ℕ) (s : State (components I) (table I)) (i j : ℕ) → i < components I → j < components I
    → Pass (table I i) (view_of I i) (formula_at I.nodes k) (s.at i)
    → Fail (table I j) (view_of I j) (formula_at I.nodes k) (s.at j) → ⊥
never_clashes file c e q = no_clash_01 (instrument_of c) (file_accepted file c e q)

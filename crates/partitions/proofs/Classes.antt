-- What callers need of the names: the name of each state, and how many names there are.
use mathlib.Core.Path.{◌≡◌, refl, sym, ap, ap₂, ◌∙◌}
use mathlib.Core.List.{List, []}
use lib.ListN.{length, get_or, replicate, length-append, length-replicate}
use native.Mathlib.Omega.{arith}
use Prim.Native.Nat.{ℕ, zero, suc, ◌+◌, ◌≤◌, ◌<◌}
use Rattle.meaning.specs.Instrument.{Instrument, components, table}
use Rattle.meaning.specs.File.Grammar.{Contents, instrument_of, most_states}
use Rattle.meaning.specs.Reference.Answers.{list_below, join_below, classes_at, class_names_of}
use Rattle.meaning.specs.Roots.{classes_at_roots, root_alone, roots_class_names}
use Rattle.meaning.proofs.Roots.{root_entries, root_classes_lem}
use Rattle.meaning.proofs.Basic.Entries.{list_length}
use Rattle.instrument.specs.declared.Instrument as stored
use Rattle.instrument.specs.Described.{Describes}
use Rattle.instrument.proofs.Bounds.{count_bounds, states_bounds}
use Rattle.instrument.proofs.Tables.{table_count, table_states}
use Rattle.classes.proofs.Padded.{padded_at}
use Rattle.relations.proofs.NodeRelations.{front_at}
use Rattle.partitions.specs.Classes.{table_classes, component_classes, no_names, classes_of, root_classes_of, sum_below, state_sum}

-- what stands at a component's and a state's place
pub row_at : (I : Instrument) (roots : List ℕ) → components I ≤ 4 → (i : ℕ) → i < components I
    → get_or (classes_of I roots) i [] ≡ component_classes I roots i
unfolding classes_of
row_at I roots few i l =
    front_at (component_classes I roots) [] (replicate 4 no_names) (components I) (omega (arith, length-replicate 4 no_names)) i l

state_at_lem : (I : Instrument) (roots : List ℕ) (i : ℕ) → (table I i).states ≤ most_states → (x : ℕ) → x < (table I i).states
    → get_or (component_classes I roots i) x 0 ≡ classes_at_roots I roots i x
unfolding table_classes
state_at_lem I roots i m x l = padded_at most_states (table I i).states (classes_at_roots I roots i) x l m

pub name_at_lem : (I : Instrument) (roots : List ℕ) → components I ≤ 4 → (i : ℕ) → i < components I → (table I i).states ≤ most_states → (x : ℕ) → x < (table I i).states
    → get_or (get_or (classes_of I roots) i []) x 0 ≡ classes_at_roots I roots i x
name_at_lem I roots few i l m x h = ap (λ row. get_or row x 0) (row_at I roots few i l) ∙ state_at_lem I roots i m x h

-- how many names there are
pub sum_same : (n : ℕ) (f g : ℕ → ℕ) → ((i : ℕ) → f i ≡ g i) → sum_below n f ≡ sum_below n g
sum_same zero f g h = refl
sum_same (suc n) f g h = ap₂ (λ a b. a + b) (sum_same n f g h) (h n)

pub sum_length : {X : Type 0} (n : ℕ) (m : ℕ → ℕ) (f : ℕ → ℕ → X) → length (join_below n (λ i. list_below (m i) (f i))) ≡ sum_below n m
sum_length zero m f = refl
sum_length (suc n) m f =
    length-append (join_below n (λ i. list_below (m i) (f i))) (list_below (m n) (f n))
    ∙ ap₂ (λ a b. a + b) (sum_length n m f) (list_length (m n) (f n))

pub class_names_length : (I : Instrument) (roots : List ℕ) → length (roots_class_names I roots) ≡ sum_below (components I) (λ i. (table I i).states)
class_names_length I roots = sum_length (components I) (λ i. (table I i).states) (classes_at_roots I roots)

-- the same for an instrument that describes a file's contents
module _ (t : stored.Instrument) (k : Contents) (d : Describes t k) where
  abbrev I : Instrument
  I = instrument_of k

  pub few_components : components I ≤ 4
  few_components = omega (arith, table_count t k d, (count_bounds t k d).1)

  pub few_states : (i : ℕ) → i < components I → (table I i).states ≤ most_states
  few_states i l = rw (table_states t k d i) (states_bounds t k d i (omega (arith, table_count t k d))).1

  pub described_name : (roots : List ℕ) (i x : ℕ) → i < components I → x < (table I i).states → get_or (get_or (classes_of I roots) i []) x 0 ≡ classes_at_roots I roots i x
  described_name roots i x l h = name_at_lem I roots few_components i l (few_states i l) x h

  pub names_length : (roots : List ℕ) → length (roots_class_names I roots) ≡ state_sum t
  names_length roots =
      class_names_length I roots ∙ ap (λ n. sum_below n (λ i. (table I i).states)) (table_count t k d)
      ∙ sum_same t.components (λ i. (table I i).states) (λ i. get_or t.states i 0) (table_states t k d)

  -- at document 01's root
  pub root_length : length (class_names_of I) ≡ state_sum t
  root_length = ap length (sym (root_entries I)) ∙ names_length (root_alone I)

  pub root_name : (i x : ℕ) → i < components I → x < (table I i).states → get_or (get_or (root_classes_of I) i []) x 0 ≡ classes_at I i x
  root_name i x l h = described_name (root_alone I) i x l h ∙ ap (λ c. c i x) (root_classes_lem I)

-- A list of roots, each a node's number: its classes, merged states and merged words (document 02, 9/14). Two states share a class if they are
-- related at every listed root. Document 01's questions ask for the last node alone, and get what document 01 says (proofs/Roots).
use Rattle.std.specs.Prelude.{Bool, ◌&&◌, List, [], ◌∷◌, map, length, ℕ, suc}
use Rattle.words.specs.Sets.{built}
use Rattle.meaning.specs.Tests.{All}
use Rattle.meaning.specs.Atoms.{Atom}
use Rattle.meaning.specs.Table.{Table}
use Rattle.meaning.specs.Formula.{Formula}
use Rattle.meaning.specs.Nodes.{Node, formula_at}
use Rattle.meaning.specs.Instrument.{Instrument, components, table, root_node}
use Rattle.meaning.specs.View.{View, whole_words}
use Rattle.meaning.specs.Seen.{value_of, view_of}
use Rattle.meaning.specs.Relation.{Rel}
use Rattle.meaning.specs.Merged.{merged_count_of}
use Rattle.meaning.specs.Reference.Tests.{all_of, any_of}
use Rattle.meaning.specs.Reference.Nodes.{beneath_b}
use Rattle.meaning.specs.Reference.Relation.{rel_b, class_name}
use Rattle.meaning.specs.Reference.Merged.{merged_b, lookup_b}
use Rattle.meaning.specs.Reference.Answers.{list_below, join_below}

module _ {A : Type 0} (t : Table) (κ : View A) (ρs : List (Formula A)) where
  -- related at every listed root, and tested
  abbrev pub RelAll : ℕ → ℕ → Type 0
  RelAll x y = All (λ ρ. Rel t κ ρ x y) ρs

  abbrev pub rel_all_b : ℕ → ℕ → Bool
  rel_all_b x y = all_of (λ ρ. rel_b t κ ρ x y) ρs

  -- the name of a state's class
  abbrev pub roots_class : ℕ → ℕ
  roots_class = class_name t rel_all_b

-- document 01's root as a list
abbrev pub root_alone : Instrument → List ℕ
root_alone I = root_node I ∷ []

-- node k is one of the roots or stands under one
abbrev pub under_roots_b : {A : Type 0} → List (Node A) → List ℕ → ℕ → Bool
under_roots_b nodes roots k = any_of (λ r. beneath_b nodes (suc r) k r) roots

module _ (I : Instrument) (roots : List ℕ) where
  abbrev n : ℕ
  n = components I

  abbrev S : ℕ → Table
  S = table I

  abbrev formula : ℕ → Formula Atom
  formula k = formula_at I.nodes k

  abbrev pub root_formulas : List (Formula Atom)
  root_formulas = map formula roots

  -- the classes, a name per state, components in order
  abbrev pub classes_at_roots : ℕ → ℕ → ℕ
  classes_at_roots i = roots_class (S i) (view_of I i) root_formulas

  abbrev pub roots_class_names : List ℕ
  roots_class_names = join_below n (λ i. list_below (S i).states (classes_at_roots i))

  -- the merged combination: a word per merged state, bit k the truth of node k if that is a root or stands under one
  abbrev pub roots_size : ℕ
  roots_size = merged_count_of n S classes_at_roots

  abbrev pub roots_word : ℕ → ℕ
  roots_word x =
      built (length I.nodes) (λ k.
      under_roots_b I.nodes roots k && merged_b n S classes_at_roots (view_of I) (value_of I) I.signals (formula k) x)

  abbrev pub roots_words : List ℕ
  roots_words = list_below roots_size roots_word

  -- the lookup: the bit of node r at the merged state of the states s
  abbrev pub looked_at : ℕ → (ℕ → ℕ) → Bool
  looked_at r s = lookup_b n S classes_at_roots (view_of I) (value_of I) I.signals (formula r) s

  -- classes and merged states as they were where whole output words were compared, before document 02, 3/14
  abbrev pub classes_before : ℕ → ℕ → ℕ
  classes_before i = roots_class (S i) (whole_words (S i)) root_formulas

  abbrev pub size_before : ℕ
  size_before = merged_count_of n S classes_before

-- The results of the questions about an instrument, as lists of entries (document 01: Meaning, Marks, Classes, Merged tables).
use Rattle.std.specs.Prelude.{◌&&◌, List, [], ◌∷◌, ◌++◌, length, ℕ, zero, suc}
use Rattle.words.specs.Sets.{built}
use Rattle.meaning.specs.Atoms.{Atom}
use Rattle.meaning.specs.Table.{Table}
use Rattle.meaning.specs.Formula.{Formula}
use Rattle.meaning.specs.Nodes.{formula_at}
use Rattle.meaning.specs.Instrument.{Instrument, components, table, root_node, root_formula}
use Rattle.meaning.specs.Combination.{count}
use Rattle.meaning.specs.View.{View}
use Rattle.meaning.specs.Seen.{value_of, view_of}
use Rattle.meaning.specs.Merged.{merged_count_of}
use Rattle.meaning.specs.Reference.Nodes.{beneath_b}
use Rattle.meaning.specs.Reference.Marks.{pass_b, fail_b}
use Rattle.meaning.specs.Reference.Relation.{root_class}
use Rattle.meaning.specs.Reference.Truth.{truth_b}
use Rattle.meaning.specs.Reference.Merged.{merged_b}

-- f 0, f 1, .., f (n - 1), and the lists f 0, .., f (n - 1) one after the other
abbrev pub list_below : {X : Type 0} → ℕ → (ℕ → X) → List X
list_below zero f = []
list_below (suc n) f = list_below n f ++ (f n ∷ [])

abbrev pub join_below : {X : Type 0} → ℕ → (ℕ → List X) → List X
join_below zero f = []
join_below (suc n) f = join_below n f ++ f n

module _ (I : Instrument) where
  abbrev n : ℕ
  n = components I

  abbrev S : ℕ → Table
  S = table I

  abbrev κ : ℕ → View Atom
  κ = view_of I

  abbrev formula : ℕ → Formula Atom
  formula k = formula_at I.nodes k

  -- the full way: a word per combined state, in the order of indices, bit k the truth of node k
  abbrev pub full_count : ℕ
  full_count = count n (λ i. (S i).states)

  abbrev pub full_word : ℕ → ℕ
  full_word x = built (length I.nodes) (λ k. truth_b n S I.signals (value_of I) (formula k) x)

  abbrev pub full_words : List ℕ
  full_words = list_below full_count full_word

  -- two words for every component and node, PASS then FAIL, components outermost
  abbrev pub pass_word : ℕ → ℕ → ℕ
  pass_word i k = built (S i).states (pass_b (S i) (κ i) (formula k))

  abbrev pub fail_word : ℕ → ℕ → ℕ
  fail_word i k = built (S i).states (fail_b (S i) (κ i) (formula k))

  abbrev pub mark_words_of : List ℕ
  mark_words_of = join_below n (λ i. join_below (length I.nodes) (λ k. pass_word i k ∷ fail_word i k ∷ []))

  -- a class name per state, components in order
  abbrev pub classes_at : ℕ → ℕ → ℕ
  classes_at i = root_class (S i) (κ i) (root_formula I)

  abbrev pub class_names_of : List ℕ
  class_names_of = join_below n (λ i. list_below (S i).states (classes_at i))

  -- the merged combination: a word per merged state, bit k the truth of node k if that is the root or stands under it
  abbrev pub merged_size : ℕ
  merged_size = merged_count_of n S classes_at

  abbrev pub merged_word : ℕ → ℕ
  merged_word x =
      built (length I.nodes) (λ k.
      beneath_b I.nodes (suc (root_node I)) k (root_node I) && merged_b n S classes_at κ (value_of I) I.signals (formula k) x)

  abbrev pub merged_words : List ℕ
  merged_words = list_below merged_size merged_word

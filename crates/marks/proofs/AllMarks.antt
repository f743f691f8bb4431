-- The marks of all components: the loop over them, what stands in the array, and its words as document 01's result.
use mathlib.Core.Path.{◌≡◌, refl, sym, ap, ◌∙◌}
use mathlib.Core.List.{List, [], ◌∷◌}
use lib.ListN.{length, get_or, set, replicate, length-replicate}
use lib.Seq.{sets}
use native.Mathlib.Nat.{zero-add, mul-suc, mul_right_comm, mul-le-mul_left}
use native.Mathlib.Omega.{arith}
use Prim.Native.Nat.{ℕ, suc, ◌+◌, ◌*◌, ◌≤◌, ◌<◌}
use Rattle.meaning.specs.Instrument as meaning
use Rattle.meaning.specs.Instrument.{components, table}
use Rattle.meaning.specs.Nodes.{formula_at}
use Rattle.meaning.specs.Seen.{view_of}
use Rattle.meaning.specs.File.Grammar.{Contents, instrument_of}
use Rattle.meaning.specs.Reference.Answers.{list_below, join_below, mark_words_of, pass_word, fail_word}
use Rattle.answers.specs.Buffers.{entries, lent_after}
use Rattle.meaning.proofs.Basic.Entries.{list_length, list_at, join_length, join_same}
use Rattle.answers.proofs.Buffers.{lent_sets}
use Rattle.instrument.specs.declared.Instrument.{Instrument}
use Rattle.instrument.specs.Described.{Describes}
use Rattle.instrument.proofs.Places.{nodecount_is}
use Rattle.instrument.proofs.Bounds.{count_bounds}
use Rattle.instrument.proofs.Rows.{sets_in, filled_at}
use Rattle.instrument.proofs.Tables.{table_count}
use Rattle.mark_rules.specs.declared.Mark.{Mark}
use Rattle.marks.specs.Formulas.{formula_mark}
use Rattle.marks.specs.NodeMarks.{no_mark, list_marks, marks_of, MarkingAll, row_words, pair_at}
use Rattle.marks.proofs.NodeMarks.{pairs_length}
use Rattle.marks.proofs.Written.{written_start, written_end, join_list, singles_more}

abbrev no_row : List Mark
no_row = replicate 24 no_mark

-- the loop over the components
module _ (t : Instrument) where
  pub all_start : MarkingAll t 0 (replicate 4 no_row)
  all_start = record { reached = omega arith; each = λ k d. written_start (replicate 4 no_row) 0 t.components _ }

  pub all_more : (i : ℕ) (m : List (List Mark)) (row : List Mark) → i < t.components
      → ((k : Contents) → Describes t k → row ≡ list_marks (table (instrument_of k) i) (view_of (instrument_of k) i) k.nodes)
      → MarkingAll t i m → MarkingAll t (i + 1) (set m i row)
  all_more i m row h e s =
      record {
        reached = omega arith;
        each =
            λ k d. singles_more (λ i. list_marks (table (instrument_of k) i) (view_of (instrument_of k) i) k.nodes) (replicate 4 no_row) t.components i m row h (e k d)
            (s.each k d);
      }

  pub all_end : (i : ℕ) (m : List (List Mark)) → t.components ≡ i → MarkingAll t i m → (k : Contents) → Describes t k
      → m ≡ marks_of (instrument_of k)
  unfolding marks_of
  all_end i m e s k d =
      let g : ℕ → List Mark = λ i. list_marks (table (instrument_of k) i) (view_of (instrument_of k) i) k.nodes in
      written_end (replicate 4 no_row) 0 t.components (λ i. g i ∷ []) i m e (s.each k d)
      ∙ ap (λ vs. sets (replicate 4 no_row) 0 vs) (join_list g t.components ∙ ap (λ n. list_below n g) (sym (table_count t k d)))

-- what stands in the array
module _ (I : meaning.Instrument) (few : components I ≤ 4) (short : length I.nodes ≤ 24) where
  abbrev node_mark : ℕ → ℕ → Mark
  node_mark i k = formula_mark (table I i) (view_of I i) (formula_at I.nodes k)

  row_at : (i : ℕ) → i < components I → get_or (marks_of I) i [] ≡ list_marks (table I i) (view_of I i) I.nodes
  unfolding marks_of
  row_at i h =
      let e : 0 + i ≡ i = zero-add i in
      rw e at
      (sets_in [] (list_below (components I) row_of) (replicate 4 no_row) 0 i
      (omega (arith, list_length (components I) row_of, length-replicate 4 no_row)) (omega (arith, list_length (components I) row_of)))
      ∙ list_at (components I) row_of [] i h
    where
      row_of : ℕ → List Mark
      row_of i = list_marks (table I i) (view_of I i) I.nodes

  pub mark_at_lem : (i k : ℕ) → i < components I → k < length I.nodes → get_or (get_or (marks_of I) i []) k no_mark ≡ node_mark i k
  unfolding list_marks
  mark_at_lem i k h l =
      ap (λ row. get_or row k no_mark) (row_at i h)
      ∙ filled_at no_mark 24 (list_below (length I.nodes) (node_mark i)) (omega (arith, list_length (length I.nodes) (node_mark i))) k
      ∙ list_at (length I.nodes) (node_mark i) no_mark k l

  -- its words
  pub words_are : join_below (components I) (λ i. row_words (get_or (marks_of I) i []) (length I.nodes)) ≡ mark_words_of I
  words_are =
      join_same (components I) (λ i. row_words (get_or (marks_of I) i []) (length I.nodes))
      (λ i. join_below (length I.nodes) (λ k. pass_word I i k ∷ fail_word I i k ∷ [])) (λ i h.
      join_same (length I.nodes) (pair_at (get_or (marks_of I) i [])) (λ k. pass_word I i k ∷ fail_word I i k ∷ []) (λ k l.
      ap (λ m. m.pass ∷ m.fail ∷ []) (mark_at_lem i k h l)))

-- copied out, row by row, into a buffer that has room for them
pub rows_length : (m : List (List Mark)) (count n : ℕ) → length (join_below n (λ i. row_words (get_or m i []) count)) ≡ 2 * count * n
rows_length m count n = join_length (2 * count) n (λ i. row_words (get_or m i []) count) (λ i l. pairs_length (get_or m i []) count)

pub row_fits : (width n i : ℕ) → i < n → width * i + width ≤ width * n
row_fits width n i h =
    let m : width * suc i ≤ width * n = mul-le-mul_left width h in
    omega (arith, mul-suc width i)

module _ (t : Instrument) (k : Contents) (d : Describes t k) where
  abbrev I : meaning.Instrument
  I = instrument_of k

  words_same : (m : List (List Mark)) → m ≡ marks_of I → join_below t.components (λ i. row_words (get_or m i []) t.nodecount) ≡ mark_words_of I
  words_same m e =
      rw (← table_count t k d, nodecount_is t k d, e)
      (words_are I (omega (arith, table_count t k d, (count_bounds t k d).1)) d.promised.node_count.1)

  pub words_length : length (mark_words_of I) ≡ 2 * t.components * t.nodecount
  words_length =
      ap length (sym (words_same (marks_of I) refl)) ∙ rows_length (marks_of I) t.nodecount t.components
      ∙ mul_right_comm 2 t.nodecount t.components

  pub rows_written : (m : List (List Mark)) → m ≡ marks_of I → (old : List ℕ) → 2 * t.components * t.nodecount ≤ length old
      → sets old 0 (join_below t.components (λ i. row_words (get_or m i []) t.nodecount)) ≡ lent_after (entries (mark_words_of I)) old
  rows_written m e old h = rw (words_same m e) (lent_sets (mark_words_of I) old (omega (arith, words_length)))

-- The classes of all components: the loop over them.
use mathlib.Core.Path.{◌≡◌, sym, ap, ◌∙◌}
use mathlib.Core.List.{List, [], ◌∷◌}
use lib.ListN.{get_or, take, set, replicate, length-replicate}
use lib.Seq.{sets}
use native.Mathlib.Omega.{arith}
use Prim.Native.Nat.{ℕ, ◌+◌, ◌≤◌, ◌<◌}
use Rattle.meaning.specs.Instrument as meaning
use Rattle.meaning.specs.Instrument.{components, table}
use Rattle.meaning.specs.File.Grammar.{Contents, instrument_of}
use Rattle.meaning.specs.Seen.{view_of}
use Rattle.meaning.specs.Reference.Answers.{list_below}
use Rattle.instrument.specs.declared.Instrument.{Instrument}
use Rattle.meaning.specs.File.Promise.{component_at}
use Rattle.instrument.specs.declared.component.Component.{Component}
use Rattle.instrument.specs.Component.{IsComponent}
use Rattle.instrument.proofs.Bounds.{count_bounds, node_bounds}
use Rattle.instrument.proofs.Places.{nodes_length}
use Rattle.marks.proofs.Parts.{listing, listing_part}
use Rattle.instrument.proofs.Tables.{table_count}
use Rattle.mark_rules.specs.declared.Mark.{Mark}
use Rattle.marks.specs.NodeMarks.{no_mark, Listing, list_marks, marks_of}
use Rattle.marks.proofs.Written.{written_start, written_end, join_list, singles_more}
use Rattle.instrument.specs.declared.Node.{Node}
use Rattle.instrument.specs.declared.Roots.{Roots}
use Rattle.instrument.specs.Roots.{GoodRoots, listed_roots}
use Rattle.subformulas.specs.Under.{under_roots}
use Rattle.compared.specs.Compared.{ReadSignals}
use Rattle.relations.specs.Relations.{MarkedComponent, Needed}
use Rattle.relations.proofs.NodeRelations.{front_at}
use Rattle.partitions.specs.Classes.{component_classes, no_names, classes_of, MarkedInstrument}
use Rattle.partitions.specs.Progress.{Naming}

-- the row of a component's marks
marks_row : (I : meaning.Instrument) → components I ≤ 4 → (i : ℕ) → i < components I
    → get_or (marks_of I) i [] ≡ list_marks (table I i) (view_of I i) I.nodes
unfolding marks_of
marks_row I few i l =
    front_at (λ i. list_marks (table I i) (view_of I i) I.nodes) [] (replicate 4 (replicate 24 no_mark)) (components I)
    (omega (arith, length-replicate 4 (replicate 24 no_mark))) i l

-- the nodes that the roots need
pub needed_of : {nodes : List Node} {count : ℕ} {k : Contents} {roots : Roots} {needed : ℕ} → Listing nodes count k.nodes → GoodRoots count roots
    → needed ≡ under_roots k.nodes (listed_roots roots) → Needed k roots needed
needed_of l good e = record { good = rw (← l.long) good; under = e }

module _ (t : Instrument) (marks : List (List Mark)) (read : ℕ) where
  pub marked_row : (k : Contents) → MarkedInstrument t marks k → ReadSignals k read → (i : ℕ) → i < t.components → (r : Component)
      → IsComponent (component_at k i) r → MarkedComponent r (take t.nodecount t.nodes) (get_or marks i []) read k i
  marked_row k m s i l r e =
      let d = m.describes in
      record {
        promised = d.promised;
        here = omega (arith, table_count t k d);
        is = e;
        listing = listing_part (omega (arith, (node_bounds t k d).1, nodes_length t k d)) (listing t k d);
        signals = s;
        marked =
            ap (λ ms. get_or ms i []) m.marked
            ∙ marks_row (instrument_of k) (omega (arith, table_count t k d, (count_bounds t k d).1)) i (omega (arith, table_count t k d));
      }

module _ (t : Instrument) (marks : List (List Mark)) (read : ℕ) (roots : List ℕ) where
  pub naming_start : Naming t marks read roots 0 (replicate 4 no_names)
  naming_start = record { reached = omega arith; each = λ k m r. written_start (replicate 4 no_names) 0 t.components _ }

  pub naming_more : (i : ℕ) (names : List (List ℕ)) (row : List ℕ) → i < t.components
      → ((k : Contents) → MarkedInstrument t marks k → ReadSignals k read → row ≡ component_classes (instrument_of k) roots i)
      → Naming t marks read roots i names → Naming t marks read roots (i + 1) (set names i row)
  naming_more i names row h e s =
      record {
        reached = omega arith;
        each =
            λ k m r. singles_more (component_classes (instrument_of k) roots) (replicate 4 no_names) t.components i names row h
            (e k m r) (s.each k m r);
      }

  pub naming_end : (i : ℕ) (names : List (List ℕ)) → t.components ≡ i → Naming t marks read roots i names → (k : Contents) → MarkedInstrument t marks k
      → ReadSignals k read → names ≡ classes_of (instrument_of k) roots
  unfolding classes_of
  naming_end i names e s k m r =
      let g : ℕ → List ℕ = component_classes (instrument_of k) roots in
      written_end (replicate 4 no_names) 0 t.components (λ i. g i ∷ []) i names e (s.each k m r)
      ∙ ap (λ vs. sets (replicate 4 no_names) 0 vs) (join_list g t.components ∙ ap (λ n. list_below n g) (sym (table_count t k m.describes)))

-- The relations of the parts of an instrument's arrays that are a component's lists, and the one at the roots.
use mathlib.Core.Path.{◌≡◌, refl, sym, ap, ap₂, ◌∙◌}
use mathlib.Core.Bool.{Bool, true, false, ◌&&◌}
use mathlib.Core.List.{List, [], ◌∷◌, map}
use lib.ListN.{length, get_or, take}
use native.Mathlib.Omega.{arith}
use Prim.Native.Nat.{ℕ, zero, suc, ◌+◌, ◌≤◌, ◌<◌}
use Rattle.meaning.specs.Tests.{All}
use Rattle.meaning.specs.Atoms.{Atom}
use Rattle.meaning.specs.Nodes.{Node, formula_at}
use Rattle.meaning.specs.Instrument as meaning
use Rattle.meaning.specs.Instrument.{table}
use Rattle.meaning.specs.File.Grammar.{Contents, instrument_of, limits, most_states}
use Rattle.meaning.specs.Table.{Table}
use Rattle.meaning.specs.View.{View}
use Rattle.meaning.specs.Seen.{view_of}
use Rattle.meaning.specs.Reference.Answers.{list_below}
use Rattle.meaning.specs.Reference.Tests.{all_of}
use Rattle.meaning.specs.Reference.Relation.{rel_b}
use Rattle.meaning.specs.Roots.{rel_all_b}
use Rattle.meaning.proofs.Basic.Entries.{list_length, list_at}
use Rattle.meaning.proofs.Basic.Lists.{places_all}
use Rattle.meaning.proofs.File.Members.{all_at}
use Rattle.instrument.specs.declared.Roots.{Roots}
use Rattle.meaning.specs.File.Promise.{Promised}
use Rattle.instrument.specs.Roots.{listed_roots}
use Rattle.instrument.proofs.Rows.{filled_at}
use Rattle.mark_rules.specs.declared.Mark.{Mark}
use Rattle.marks.specs.Formulas.{formula_mark}
use Rattle.marks.specs.NodeMarks.{no_mark, list_marks}
use Rattle.subformulas.specs.Under.{Closed}
use Rattle.subformulas.proofs.Members.{root_under, under_closed}
use Rattle.subformulas.proofs.Root.{good_each}
use Rattle.classes.specs.Rows.{rel, rows}
use Rattle.classes.specs.Related.{related_all, related_both}
use Rattle.classes.proofs.Rows.{rel_rows_lem, rows_same}
use Rattle.relations.specs.Relations.{Marked, Needed, formula_relation, list_relations, related_by, roots_relation}
use Rattle.relations.proofs.NodeRelations.{relation_at_lem}

-- the marks of a table's nodes, listed, are those of its nodes
pub marked_list : (t : Table) (κ : View Atom) (ns : List (Node Atom)) → length ns ≤ 24 → Marked t κ ns (list_marks t κ ns)
unfolding list_marks
marked_list t κ ns short =
    record {
      each =
          λ k l. filled_at no_mark 24 (list_below (length ns) mark) (omega (arith, list_length (length ns) mark)) k
          ∙ list_at (length ns) mark no_mark k l;
    }
  where
    mark : ℕ → Mark
    mark k = formula_mark t κ (formula_at ns k)

-- the relations of a component's table from those of the table of its parts
pub parts_related : (p t : Table) → p ≡ t → (κ : View Atom) (ns : List (Node Atom)) → length ns ≤ 24 → (marks : List Mark) (needed : ℕ) (r : List (List ℕ))
    → (Marked p κ ns marks → r ≡ list_relations p κ ns needed) → marks ≡ list_marks t κ ns → r ≡ list_relations t κ ns needed
parts_related p t e κ ns short marks needed r h q =
    h (rw (q ∙ ap (λ t. list_marks t κ ns) (sym e)) (marked_list p κ ns short)) ∙ ap (λ t. list_relations t κ ns needed) e

-- ---- the pairs that every listed relation has, one relation after the other
and_swap : (a b c : Bool) → (a && (b && c)) ≡ ((a && b) && c)
and_swap true b c = refl
and_swap false b c = refl

-- one member more of a list
all_more : (p : ℕ → Bool) (ks : List ℕ) (j : ℕ) → j < length ks → all_of p (take (j + 1) ks) ≡ (all_of p (take j ks) && p (get_or ks j 0))
all_more p [] j l = absurd (omega arith)
all_more p (k ∷ ks) zero l = go (p k)
  where
    go : (b : Bool) → (b && true) ≡ b
    go true = refl
    go false = refl
all_more p (k ∷ ks) (suc j) l =
    let e : suc j + 1 ≡ suc (j + 1) = omega arith in
    ap (λ n. all_of p (take n (k ∷ ks))) e ∙ ap (λ b. p k && b) (all_more p ks j (omega arith)) ∙ and_swap (p k) (all_of p (take j ks)) (p (get_or ks j 0))

module _ (n : ℕ) (m : n ≤ most_states) (relations : List (List ℕ)) (ks : List ℕ) where
  abbrev each : ℕ → ℕ → ℕ → Bool
  each x y k = rel (get_or relations k []) x y

  pub by_none : related_all n ≡ related_by n relations (take 0 ks)
  unfolding related_all
  by_none = refl

  pub by_more : (j : ℕ) → j < length ks → (a : List ℕ) → a ≡ related_by n relations (take j ks)
      → related_both n a (get_or relations (get_or ks j 0) []) ≡ related_by n relations (take (j + 1) ks)
  unfolding related_both
  by_more j l a e =
      rw e
      (rows_same n (λ x y. rel (related_by n relations (take j ks)) x y && each x y (get_or ks j 0)) (λ x y. all_of (each x y) (take (j + 1) ks)) m (λ x y h k.
      ap (λ b. b && each x y (get_or ks j 0)) (rel_rows_lem n (λ x y. all_of (each x y) (take j ks)) x y m h k) ∙ sym (all_more (each x y) ks j l)))

-- relations that are those of the listed formulas
by_formulas : (t : Table) (κ : View Atom) (ns : List (Node Atom)) (n : ℕ) → n ≡ t.states → n ≤ most_states → (relations : List (List ℕ)) (ks : List ℕ)
    → All (λ k. get_or relations k [] ≡ formula_relation t κ (formula_at ns k)) ks
    → related_by n relations ks ≡ rows t.states (rel_all_b t κ (map (formula_at ns) ks))
by_formulas t κ ns n e m relations ks h =
    rw e (rows_same t.states _ _ (omega (arith, e)) (λ x y l k. go ks h x y l k))
  where
    go : (ks : List ℕ) → All (λ k. get_or relations k [] ≡ formula_relation t κ (formula_at ns k)) ks → (x y : ℕ) → x < t.states → y < t.states
        → all_of (λ k. rel (get_or relations k []) x y) ks ≡ rel_all_b t κ (map (formula_at ns) ks) x y
    go [] h x y l k = refl
    go (r ∷ rs) h x y l k =
        ap₂ (λ a b. a && b) (ap (λ q. rel q x y) h.0 ∙ rel_rows_lem t.states (rel_b t κ (formula_at ns r)) x y (omega (arith, e)) l k) (go rs h.1 x y l k)

module _ {k : Contents} (d : Promised limits k) {roots : Roots} {needed : ℕ} (u : Needed k roots needed) where
  abbrev I : meaning.Instrument
  I = instrument_of k

  listed : All (λ r. r < length k.nodes) (listed_roots roots)
  listed = good_each (length k.nodes) roots u.good

  -- the operands of each node under the roots are under them
  pub needed_closed : Closed k.nodes needed
  needed_closed = rw u.under (under_closed k.nodes d.earlier (listed_roots roots) listed)

  -- the roots are among the needed nodes
  pub roots_related : (c n : ℕ) (r : List (List ℕ)) → n ≡ (table I c).states → n ≤ most_states
      → r ≡ list_relations (table I c) (view_of I c) k.nodes needed → related_by n r (listed_roots roots) ≡ roots_relation I c (listed_roots roots)
  roots_related c n r e m h =
      by_formulas (table I c) (view_of I c) k.nodes n e m r (listed_roots roots)
      (places_all (λ q. get_or r q [] ≡ formula_relation (table I c) (view_of I c) (formula_at k.nodes q)) 0 (listed_roots roots) (λ j l. rw h
      (relation_at_lem (table I c) (view_of I c) k.nodes needed d.node_count.1 (get_or (listed_roots roots) j 0) (all_at (λ q. q < length k.nodes) (listed_roots roots) listed 0 j l)
      (rw u.under (root_under k.nodes d.earlier (listed_roots roots) listed j l)))))

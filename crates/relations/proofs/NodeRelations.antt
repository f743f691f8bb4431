-- The rules, applied to the marks and relations of a node's operands, give those of its formula; the nodes one after
-- the other, those that are not needed left out.
use mathlib.Core.Path.{◌≡◌, refl, sym, subst, ap, ap₂, ◌∙◌}
use mathlib.Core.Bool.{Bool, true, false, cond}
use mathlib.Core.List.{List, [], ◌∷◌}
use lib.Dec.{T}
use lib.ListN.{length, get_or, set, replicate, length-replicate}
use lib.Seq.{sets, set-get_or}
use native.Mathlib.Nat.{zero-add}
use native.Mathlib.Omega.{arith}
use Prim.Native.Nat.{ℕ, ◌+◌, ◌≤◌, ◌<◌}
use borrow.Author.Tests.{lt-ltb, le-ltb}
use Rattle.words.specs.Sets.{has}
use Rattle.meaning.specs.Atoms.{Atom, on_signal}
use Rattle.meaning.specs.Formula as formula
use Rattle.meaning.specs.Formula.{Formula}
use Rattle.meaning.specs.Nodes.{Node, top, Operand, node_at, formula_at}
use Rattle.meaning.specs.Table.{Table}
use Rattle.meaning.specs.StepWords.{step_table}
use Rattle.meaning.specs.View.{View}
use Rattle.meaning.specs.Reference.Rules.{Rules}
use Rattle.meaning.specs.Reference.Answers.{list_below}
use Rattle.meaning.proofs.Basic.Entries.{list_length, list_at}
use Rattle.meaning.proofs.File.Nodes.{formula_at_lem}
use Rattle.meaning.proofs.Rules.{Follows, node_value}
use Rattle.instrument.proofs.Nodes.{kind_has_lem}
use Rattle.instrument.specs.declared.Node as stored
use Rattle.instrument.specs.declared.component.Component.{Component}
use Rattle.instrument.specs.Component.{reading_table}
use Rattle.instrument.specs.Layout.{node_of}
use Rattle.instrument.proofs.Rows.{sets_in}
use Rattle.mark_rules.specs.declared.Mark.{Mark}
use Rattle.marks.specs.Formulas.{formula_mark, Sees}
use Rattle.marks.proofs.NodeMarks.{marks_followed}
use Rattle.marks.specs.NodeMarks.{no_mark, Listing}
use Rattle.marks.specs.Written.{Written}
use Rattle.marks.proofs.Written.{written_start, written_end, join_list, singles_more, singles_past}
use Rattle.subformulas.specs.Under.{Closed}
use Rattle.classes.specs.Related.{related_all, related_both, related_ex, related_fixed}
use Rattle.classes.proofs.Rows.{rows_same}
use Rattle.classes.proofs.Formulas.{top_rows, or_rows, ex_rows, eg_rows, eu_rows}
use Rattle.meaning.specs.File.Grammar.{most_states}
use Rattle.relations.specs.Relations.{formula_relation, signal_relation, Comparing, no_relation, place_of, Sorted, sorted, ex_sorted, fixed_sorted, relation_rules, kind_sorted}
use Rattle.relations.specs.Relations.{Marked, needed_relation, list_relations, RelatedNodes, Relating}

-- the place of an operand: its own where it is a node's number, or else 0
pub place_in : (i : ℕ) → i < 24 → i ≡ place_of i
place_in i l = rw (lt-ltb i 24 l) refl

pub place_out : (i : ℕ) → 24 ≤ i → 0 ≡ place_of i
place_out i l = rw (le-ltb i 24 l) refl

-- a list stored at the front of another that has room for it, member by member
pub front_at : {X : Type 0} (g : ℕ → X) (d : X) (l₀ : List X) (k : ℕ) → k ≤ length l₀ → (j : ℕ) → j < k
    → get_or (sets l₀ 0 (list_below k g)) j d ≡ g j
front_at g d l₀ k h j p =
    let e : 0 + j ≡ j = zero-add j in
    rw e at (sets_in d (list_below k g) l₀ 0 j (omega (arith, list_length k g)) (omega (arith, list_length k g))) ∙ list_at k g d j p

pub stored_at : {X : Type 0} (g : ℕ → X) (d : X) (l₀ : List X) (n k : ℕ) (l : List X) → k ≤ length l₀
    → Written l₀ 0 n (λ k. g k ∷ []) k l → (j : ℕ) → j < k → get_or l j d ≡ g j
stored_at g d l₀ n k l h w j p =
    ap (λ l. get_or l j d) (w.same ∙ ap (λ vs. sets l₀ 0 vs) (join_list g k)) ∙ front_at g d l₀ k h j p

-- in an array that holds d alone from member k on, d is stored there already
stored_kept : {X : Type 0} (g : ℕ → X) (d : X) (room n k : ℕ) (l : List X) → k < n → k ≤ room → d ≡ g k
    → Written (replicate room d) 0 n (λ k. g k ∷ []) k l → Written (replicate room d) 0 n (λ k. g k ∷ []) (k + 1) l
stored_kept g d room n k l h m e w =
    subst (λ l. Written (replicate room d) 0 n (λ k. g k ∷ []) (k + 1) l)
    (ap (λ v. set l k v) (sym (singles_past g d room n k l m w k (omega arith))) ∙ set-get_or l k d)
    (singles_more g (replicate room d) n k l d h e w)

taken : {X : Type 0} (b : Bool) (x y : X) → T b → cond b x y ≡ x
taken true x y h = refl
taken false x y h = absurd h

-- the relation of a needed node among those of all nodes
pub relation_at_lem : (t : Table) (κ : View Atom) (ns : List (Node Atom)) (needed : ℕ) → length ns ≤ 24 → (k : ℕ) → k < length ns → T (has needed k)
    → get_or (list_relations t κ ns needed) k [] ≡ formula_relation t κ (formula_at ns k)
unfolding list_relations
relation_at_lem t κ ns needed short k l h =
    front_at (needed_relation t κ ns needed) [] (replicate 24 no_relation) (length ns)
    (omega (arith, length-replicate 24 no_relation)) k l
    ∙ taken (has needed k) (formula_relation t κ (formula_at ns k)) no_relation h

module _
    (r : Component)
    (m : r.table.states ≤ most_states)
    (ins : List ℕ)
    (counted : length ins ≡ r.table.inputs)
    (compared : List ℕ)
    (κ : View Atom)
    (sees : Sees (reading_table r ins) κ)
    (same : Comparing r.table.states compared κ)
  where
    abbrev n : ℕ
    n = r.table.states

    abbrev outputs : List ℕ
    outputs = r.outputs.now

    abbrev outs : List ℕ
    outs = r.outs.now

    abbrev succ : List ℕ
    succ = r.table.succ.now

    abbrev t : Table
    t = reading_table r ins

    abbrev rows_of : Formula Atom → List ℕ
    rows_of φ = formula_relation t κ φ

    abbrev mark_of : Formula Atom → Mark
    mark_of φ = formula_mark t κ φ

    abbrev has_all : Formula Atom → Sorted
    has_all φ = sorted (mark_of φ) (rows_of φ)

    abbrev rules : Rules Atom Sorted
    rules = relation_rules r compared

    both : {m₁ m₂ : Mark} {r₁ r₂ : List ℕ} → m₁ ≡ m₂ → r₁ ≡ r₂ → sorted m₁ r₁ ≡ sorted m₂ r₂
    both e d = ap₂ sorted e d

    signals_of : (a : Atom) → rules.atom a ≡ has_all (formula.atom a)
    unfolding signal_relation
    signals_of (on_signal w) =
        both ((marks_followed r ins counted κ sees).atom (on_signal w)) (rows_same n _ _ m (λ x y l k. sym (sees.related w x y)))

    -- marks and relations of formulas go by the rules
    rules_followed : Follows rules has_all
    rules_followed =
        let marks = marks_followed r ins counted κ sees in
        record {
          top = both marks.top (top_rows n m ins outputs outs succ compared κ same);
          atom = signals_of;
          neg = λ φ. both (marks.neg φ) refl;
          or = λ φ ψ. both (marks.or φ ψ) (or_rows n m ins outputs outs succ compared κ same φ ψ);
          ex = λ φ.
              ap (λ m. ex_sorted r compared m (mark_of φ) (rows_of φ)) (marks.ex φ)
              ∙ ap (λ k. sorted (mark_of (formula.ex φ)) (related_ex (step_table n k succ) compared (rows_of φ) (mark_of (formula.ex φ)) (mark_of φ).fail)) (sym counted)
              ∙ ap (sorted (mark_of (formula.ex φ))) (ex_rows n m ins outputs outs succ compared κ same φ);
          eg = λ φ.
              ap (λ m. fixed_sorted r compared m (rows_of φ)) (marks.eg φ)
              ∙ ap (λ k. sorted (mark_of (formula.eg φ)) (related_fixed (step_table n k succ) compared (rows_of φ) (mark_of (formula.eg φ)))) (sym counted)
              ∙ ap (sorted (mark_of (formula.eg φ))) (eg_rows n m ins outputs outs succ compared κ same φ);
          eu = λ φ ψ.
              ap (λ m. fixed_sorted r compared m (related_both n (rows_of φ) (rows_of ψ))) (marks.eu φ ψ)
              ∙ ap (λ k. sorted (mark_of (formula.eu φ ψ)) (related_fixed (step_table n k succ) compared (related_both n (rows_of φ) (rows_of ψ)) (mark_of (formula.eu φ ψ))))
              (sym counted)
              ∙ ap (sorted (mark_of (formula.eu φ ψ))) (eu_rows n m ins outputs outs succ compared κ same φ ψ);
        }

    -- the nodes of a formula one after the other
    module _
        (nodes : List stored.Node)
        (count : ℕ)
        (ns : List (Node Atom))
        (l : Listing nodes count ns)
        (marks : List Mark)
        (marked : Marked t κ ns marks)
        (needed : ℕ)
        (closed : Closed ns needed)
      where
        abbrev relation_at : ℕ → List ℕ
        relation_at = needed_relation t κ ns needed

        needed_at : (k : ℕ) → T (has needed k) → relation_at k ≡ rows_of (formula_at ns k)
        needed_at k h = taken (has needed k) (rows_of (formula_at ns k)) no_relation h

        -- what node k has, from what stands at the places of its operands
        node_formula : (k : ℕ) (s : List (List ℕ)) → k < count → T (has needed k)
            → Written (replicate 24 no_relation) 0 count (λ k. relation_at k ∷ []) k s
            → let node = get_or nodes k (node_of top) in
            let at : ℕ → Sorted = λ i. sorted (get_or marks (place_of i) no_mark) (get_or s (place_of i) []) in
            kind_sorted r compared node.kind node.left (at node.left) (at node.right) ≡ has_all (formula_at ns k)
        node_formula k s h m w =
            rw (l.at k, formula_at_lem ns l.earlier k)
            (kind_has_lem rules (sorted no_mark (related_all n)) at (node_at ns k)
            ∙ node_value rules has_all rules_followed (node_at ns k) at (formula_at ns) (λ i o.
            both
            (rw (← place_in i (small i o)) (marked.each i (omega (arith, l.earlier k i o, l.long))))
            (rw (← place_in i (small i o)) (stored_at relation_at [] (replicate 24 no_relation) count k s
            (omega (arith, length-replicate 24 no_relation, l.long, l.room)) w i (l.earlier k i o) ∙ needed_at i (closed.operands k i m o)))))
          where
            at : ℕ → Sorted
            at i = sorted (get_or marks (place_of i) no_mark) (get_or s (place_of i) [])

            small : (i : ℕ) → Operand i (node_at ns k) → i < 24
            small i o = omega (arith, h, l.earlier k i o, l.long, l.room)

-- the loop over the nodes
module _ (c : Component) (compared : List ℕ) (nodes : List stored.Node) (marks : List Mark) (needed : ℕ) where
  abbrev count : ℕ
  count = length nodes

  abbrev Related : ℕ → List (List ℕ) → Type 0
  Related k r = Relating c compared nodes marks needed k r

  abbrev relation_by : List ℕ → View Atom → List (Node Atom) → ℕ → List ℕ
  relation_by ins κ ns = needed_relation (reading_table c ins) κ ns needed

  pub relating_start : Related 0 (replicate 24 no_relation)
  relating_start = record { reached = omega arith; each = λ ins e κ v p ns l cl q. written_start (replicate 24 no_relation) 0 count _ }

  -- node k is needed: its relation is stored, from what stands at the places of its operands
  abbrev sorted_at : ℕ → List (List ℕ) → ℕ → ℕ → Sorted
  sorted_at k r left right =
      let node = get_or nodes k (node_of top) in
      kind_sorted c compared node.kind node.left (sorted (get_or marks left no_mark) (get_or r left []))
      (sorted (get_or marks right no_mark) (get_or r right []))

  pub relating_in : c.table.states ≤ most_states → (k : ℕ) (r : List (List ℕ)) (v : List ℕ) → k < count → true ≡ has needed k → (left right : ℕ)
      → left ≡ place_of (get_or nodes k (node_of top)).left → right ≡ place_of (get_or nodes k (node_of top)).right
      → (get_or marks k no_mark ≡ (sorted_at k r left right).mark → v ≡ (sorted_at k r left right).relation) → Related k r → Related (k + 1) (set r k v)
  relating_in m k r v h i left right a b w s =
      record {
        reached = omega arith;
        each =
            λ ins q κ u z ns l cl p.
            let e : sorted_at k r left right ≡ sorted (formula_mark (reading_table c ins) κ (formula_at ns k))
            (formula_relation (reading_table c ins) κ (formula_at ns k)) =
            rw (a, b) (node_formula c m ins q compared κ u z nodes count ns l marks p needed cl k r h (subst T i tt) (s.each ins q κ u z ns l cl p))
            in
            singles_more (relation_by ins κ ns) (replicate 24 no_relation) count k r v h
            (w (p.each k (omega (arith, l.long)) ∙ sym (ap (λ y. y.mark) e))
            ∙ ap (λ y. y.relation) e ∙ sym (taken (has needed k) _ no_relation (subst T i tt)))
            (s.each ins q κ u z ns l cl p);
      }

  -- it is not: nothing changes
  pub relating_out : (k : ℕ) (r : List (List ℕ)) → k < count → false ≡ has needed k → Related k r → Related (k + 1) r
  relating_out k r h i s =
      record {
        reached = omega arith;
        each =
            λ ins q κ u z ns l cl p.
            stored_kept (relation_by ins κ ns) no_relation 24 count k r h (omega (arith, l.long, l.room)) (rw (← i) refl) (s.each ins q κ u z ns l cl p);
      }

  pub relating_end : (k : ℕ) (r : List (List ℕ)) → count ≡ k → Related k r
      → RelatedNodes c compared nodes marks needed r
  unfolding list_relations
  relating_end k r e s ins q κ u z ns l cl p =
      let g : ℕ → List ℕ = relation_by ins κ ns in
      written_end (replicate 24 no_relation) 0 count (λ k. g k ∷ []) k r e (s.each ins q κ u z ns l cl p)
      ∙ ap (λ vs. sets (replicate 24 no_relation) 0 vs) (join_list g count ∙ ap (λ n. list_below n g) l.long)

-- The rule that a node's kind picks, applied to the marks of its operands, gives the marks of its formula.
use mathlib.Core.Path.{◌≡◌, refl, sym, ap, ◌∙◌}
use mathlib.Core.List.{List, [], ◌∷◌}
use lib.ListN.{length, get_or, set, replicate}
use lib.Seq.{sets}
use lib.Pow.{pow_pos}
use native.Mathlib.Decide.{dec_lt}
use native.Mathlib.Nat.{mod-eq_of_lt}
use native.Mathlib.Omega.{arith}
use Prim.Native.Nat.{ℕ, ◌+◌, ◌*◌, ◌%◌, ◌≤◌, ◌<◌}
use Rattle.meaning.specs.Atoms.{Atom, on_signal}
use Rattle.meaning.specs.Formula as formula
use Rattle.meaning.specs.Formula.{Formula}
use Rattle.meaning.specs.Nodes.{Node, top, node_at, formula_at}
use Rattle.meaning.specs.Table.{Table}
use Rattle.meaning.specs.Reference.Answers.{list_below}
use Rattle.meaning.specs.Reference.Truth.{up_to}
use Rattle.meaning.specs.View.{View, atoms}
use Rattle.meaning.specs.Reference.Rules.{Rules}
use Rattle.meaning.proofs.Basic.Entries.{join_length}
use Rattle.meaning.proofs.File.Nodes.{formula_at_lem}
use Rattle.meaning.proofs.Rules.{Follows, node_value}
use Rattle.meaning.proofs.Meaning.Full.{length_up_to}
use Rattle.instrument.specs.declared.Node as stored
use Rattle.instrument.specs.declared.component.Component.{Component}
use Rattle.instrument.specs.Component.{reading_table}
use Rattle.instrument.specs.Layout.{node_of}
use Rattle.instrument.specs.ByKind.{Operands}
use Rattle.instrument.proofs.Nodes.{kind_has_lem, operands_in}
use Rattle.mark_rules.specs.declared.Mark.{Mark}
use Rattle.marks.specs.Formulas.{formula_mark, Sees}
use Rattle.marks.specs.NodeMarks.{no_mark, signal_mark, mark_rules, rule_mark, operand_mark, Listing, MarkedNodes, Marking, list_marks, pair_at, row_words}
use Rattle.mark_rules.specs.Rules.{InRange}
use Rattle.mark_rules.proofs.Rules.{mark_is}
use Rattle.words.proofs.Built.{built_same}
use Rattle.marks.specs.Written.{Written}
use Rattle.marks.proofs.Formulas.{formula_range, formula_true, formula_or, formula_ex, formula_eg, formula_eu, own_view}
use Rattle.marks.proofs.Tables.{ex_steps, eg_steps, eu_steps}
use Rattle.marks.proofs.Written.{written_start, written_end, join_list, singles_more, singles_below, singles_past}

-- operands that are earlier nodes are nodes
pub operands_listed : (nodes : List stored.Node) (count : ℕ) (ns : List (Node Atom)) → Listing nodes count ns → (k : ℕ) → k < count
    → Operands (get_or nodes k (node_of top))
operands_listed nodes count ns l k h =
    operands_in (get_or nodes k (node_of top)) (node_at ns k) (l.at k) (λ i o. omega (arith, l.earlier k i o, l.long, l.room))

module _ (r : Component) (ins : List ℕ) (counted : length ins ≡ r.table.inputs) (κ : View Atom) (sees : Sees (reading_table r ins) κ) where
  abbrev n : ℕ
  n = r.table.states

  abbrev t : Table
  t = reading_table r ins

  abbrev of : Formula Atom → Mark
  of φ = formula_mark t κ φ

  abbrev rules : Rules Atom Mark
  rules = mark_rules r

  signals_of : (a : Atom) → rules.atom a ≡ of (formula.atom a)
  unfolding signal_mark
  signals_of (on_signal w) =
      mark_is _ _ _ (built_same n _ _ (λ x l. sym (sees.pass w x))) (built_same n _ _ (λ x l. sym (sees.fail w x)))

  -- the marks of formulas go by the rules
  pub marks_followed : Follows rules of
  marks_followed =
      record {
        top = formula_true t κ;
        atom = signals_of;
        neg = λ φ. refl;
        or = formula_or t κ;
        ex = λ φ. ex_steps n r.table.inputs ins r.outputs.now r.outs.now r.table.succ.now counted (of φ) ∙ formula_ex t κ φ;
        eg = λ φ. eg_steps n r.table.inputs ins r.outputs.now r.outs.now r.table.succ.now counted (of φ) ∙ formula_eg t κ φ;
        eu = λ φ ψ. eu_steps n r.table.inputs ins r.outputs.now r.outs.now r.table.succ.now counted (of φ) (of ψ) ∙ formula_eu t κ φ ψ;
      }

  -- the nodes of a formula one after the other
  module _ (nodes : List stored.Node) (count : ℕ) (ns : List (Node Atom)) (l : Listing nodes count ns) where
    abbrev mark_at : ℕ → Mark
    mark_at k = of (formula_at ns k)

    node_formula : (k : ℕ) (m : List Mark) → k < count → Written (replicate 24 no_mark) 0 count (λ k. mark_at k ∷ []) k m
        → let node = get_or nodes k (node_of top) in
        rule_mark r node (operand_mark m node.left) (operand_mark m node.right) ≡ mark_at k
    node_formula k m h w =
        rw (l.at k, formula_at_lem ns l.earlier k)
        (kind_has_lem rules no_mark (operand_mark m) (node_at ns k)
        ∙ node_value rules of marks_followed (node_at ns k) (operand_mark m) (formula_at ns)
        (λ i o.
        let e : i % 24 ≡ i = mod-eq_of_lt (omega (arith, l.earlier k i o, l.long, l.room)) in
        ap (λ j. get_or m j no_mark) e ∙ singles_below mark_at no_mark 24 count k m (omega (arith, l.long, l.room)) w i (l.earlier k i o)))

    -- marks stored so far are of the component's states
    stored_range : (k : ℕ) (m : List Mark) → k ≤ count → Written (replicate 24 no_mark) 0 count (λ k. mark_at k ∷ []) k m
        → (j : ℕ) → InRange n (get_or m j no_mark)
    stored_range k m h w j =
        elim (dec_lt j k) [
          | yes p ↦ rw (singles_below mark_at no_mark 24 count k m room w j p) (formula_range t κ (formula_at ns j))
          | no p ↦ rw (singles_past mark_at no_mark 24 count k m room w j (omega arith)) (record { pass = pow_pos n; fail = pow_pos n })
        ]
      where
        room : k ≤ 24
        room = omega (arith, l.long, l.room)

-- the loop over the nodes
module _ (r : Component) (nodes : List stored.Node) where
  pub marking_start : Marking r nodes 0 (replicate 24 no_mark)
  marking_start = record { reached = omega arith; each = λ ins e κ v ns l. written_start (replicate 24 no_mark) 0 (length nodes) _ }

  pub marking_more : (k : ℕ) (m : List Mark) (v : Mark) → k < length nodes
      → (let node = get_or nodes k (node_of top) in v ≡ rule_mark r node (operand_mark m node.left) (operand_mark m node.right))
      → Marking r nodes k m → Marking r nodes (k + 1) (set m k v)
  marking_more k m v h e s =
      record {
        reached = omega arith;
        each =
            λ ins q κ u ns l.
            singles_more (λ k. formula_mark (reading_table r ins) κ (formula_at ns k)) (replicate 24 no_mark) (length nodes) k m v h
            (e ∙ node_formula r ins q κ u nodes (length nodes) ns l k m h (s.each ins q κ u ns l)) (s.each ins q κ u ns l);
      }

  pub marking_end : (k : ℕ) (m : List Mark) → length nodes ≡ k → Marking r nodes k m → MarkedNodes r nodes m
  unfolding list_marks
  marking_end k m e s ins q κ u ns l =
      let g : ℕ → Mark = λ k. formula_mark (reading_table r ins) κ (formula_at ns k) in
      written_end (replicate 24 no_mark) 0 (length nodes) (λ k. g k ∷ []) k m e (s.each ins q κ u ns l)
      ∙ ap (λ vs. sets (replicate 24 no_mark) 0 vs) (join_list g (length nodes) ∙ ap (λ n. list_below n g) l.long)

  -- the marks so far are of the component's states
  pub marking_range : (ns : List (Node Atom)) → Listing nodes (length nodes) ns → (k : ℕ) (m : List Mark) → Marking r nodes k m
      → (j : ℕ) → InRange r.table.states (get_or m j no_mark)
  marking_range ns l k m s j =
      let ins = up_to r.table.inputs in
      let e = length_up_to r.table.inputs in
      let t = reading_table r ins in
      stored_range r ins e (atoms t.out t) (own_view t t.out) nodes (length nodes) ns l k m s.reached
      (s.each ins e (atoms t.out t) (own_view t t.out) ns l) j

-- two words for each mark
pub pairs_length : (row : List Mark) (k : ℕ) → length (row_words row k) ≡ 2 * k
pairs_length row k = join_length 2 k (pair_at row) (λ j l. refl)

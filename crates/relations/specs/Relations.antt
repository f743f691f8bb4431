-- The relation of a component's states at the needed nodes of a formula, as rows of words (document 01, Classes): the rule that a node's kind
-- picks, and the nodes one after the other. What is compared of the outputs is a list of its own.
use Rattle.std.specs.Prelude.{◌≡◌, cond, List, [], ◌∷◌, ltb, length, get_or, replicate, ℕ, ◌≤◌, ◌<◌}
use Rattle.std.proofs.lemmas.List.Edits.{sets}
use Rattle.words.specs.Sets.{has}
use Rattle.meaning.specs.Atoms.{Atom, on_signal}
use Rattle.meaning.specs.Formula.{Formula, atom}
use Rattle.meaning.specs.Nodes as formula
use Rattle.meaning.specs.Nodes.{formula_at}
use Rattle.meaning.specs.Table.{Table, from_words}
use Rattle.meaning.specs.Instrument as meaning
use Rattle.meaning.specs.Instrument.{components, table}
use Rattle.meaning.specs.File.Promise.{Promised, component_at}
use Rattle.meaning.specs.File.Grammar.{Contents, instrument_of, limits}
use Rattle.meaning.specs.View.{View, atoms}
use Rattle.meaning.specs.Seen.{view_of}
use Rattle.meaning.specs.Roots.{rel_all_b, root_formulas}
use Rattle.meaning.specs.Reference.Rules.{Rules}
use Rattle.meaning.specs.Reference.Tests.{all_of}
use Rattle.meaning.specs.Reference.Answers.{list_below}
use Rattle.meaning.specs.Reference.Relation.{rel_b}
use Rattle.instrument.specs.declared.Node.{Node}
use Rattle.instrument.specs.declared.component.Component.{Component}
use Rattle.instrument.specs.Component.{IsComponent, reading_table}
use Rattle.instrument.specs.Table.{table_of}
use Rattle.instrument.specs.ByKind.{kind_has}
use Rattle.mark_rules.specs.declared.Mark.{Mark}
use Rattle.marks.specs.Formulas.{formula_mark, Sees}
use Rattle.marks.specs.NodeMarks.{no_mark, mark_rules, Listing, list_marks}
use Rattle.marks.specs.Written.{Written}
use Rattle.instrument.specs.declared.Roots.{Roots}
use Rattle.instrument.specs.Roots.{GoodRoots, listed_roots}
use Rattle.subformulas.specs.Under.{Closed, under_roots}
use Rattle.classes.specs.Rows.{rel, rows}
use Rattle.compared.specs.Compared.{ReadSignals}
use Rattle.classes.specs.Related.{related_all, related_both, related_ex, related_fixed}

-- the relation of a formula on a table
abbrev pub formula_relation : {A : Type 0} → Table → View A → Formula A → List ℕ
formula_relation t κ φ = rows t.states (rel_b t κ φ)

-- own and foreign signals: the relation looks at the outputs of a table alone
unfoldable pub signal_relation : ℕ → List ℕ → List ℕ → ℕ → List ℕ
signal_relation states outputs outs w = let t = from_words states [] outputs outs [] in formula_relation t (atoms t.out t) (atom (on_signal w))

-- a view that compares the listed words of a component's n states
abbrev pub Comparing : ℕ → List ℕ → View Atom → Type 0
Comparing n compared κ = (x : ℕ) → x < n → get_or compared x 0 ≡ κ.compared x

-- a relation with no pair in it
abbrev pub no_relation : List ℕ
no_relation = replicate limits.states 0

-- the place of an operand among the nodes, 0 for a number that is none
abbrev pub place_of : ℕ → ℕ
place_of i = cond (ltb i limits.nodes) i 0

-- what a formula has on a component: its marks and its relation, which looks at marks
pub record Sorted : Type 0 where
  pub mark : Mark
  pub relation : List ℕ

abbrev pub sorted : Mark → List ℕ → Sorted
sorted m r = record { mark = m; relation = r }

-- the rules of the constructors
module _ (r : Component) (compared : List ℕ) where
  abbrev states : ℕ
  states = r.table.states

  abbrev marked : Rules Atom Mark
  marked = mark_rules r

  abbrev atom_relation : Atom → List ℕ
  atom_relation (on_signal w) = signal_relation states r.outputs.now r.outs.now w

  -- EX, and EG and EU, whose marks are m, from the marks of the first operand and what the operands relate
  abbrev pub ex_sorted : Mark → Mark → List ℕ → Sorted
  ex_sorted m under operand = sorted m (related_ex (table_of r.table) compared operand m under.fail)

  abbrev pub fixed_sorted : Mark → List ℕ → Sorted
  fixed_sorted m operands = sorted m (related_fixed (table_of r.table) compared operands m)

  abbrev pub relation_rules : Rules Atom Sorted
  relation_rules =
      record {
        top = sorted marked.top (related_all states);
        atom = λ a. sorted (marked.atom a) (atom_relation a);
        neg = λ x. sorted (marked.neg x.mark) x.relation;
        or = λ x y. sorted (marked.or x.mark y.mark) (related_both states x.relation y.relation);
        ex = λ x. ex_sorted (marked.ex x.mark) x.mark x.relation;
        eg = λ x. fixed_sorted (marked.eg x.mark) x.relation;
        eu = λ x y. fixed_sorted (marked.eu x.mark y.mark) (related_both states x.relation y.relation);
      }

  -- what a node of this kind has, from what its operands have; no known kind: no mark, and all states are related
  abbrev pub kind_sorted : ℕ → ℕ → Sorted → Sorted → Sorted
  kind_sorted = kind_has (sorted no_mark (related_all states)) relation_rules

-- marks that are those of a formula's nodes
pub record Marked (t : Table) (κ : View Atom) (ns : List (formula.Node Atom)) (marks : List Mark) : Type 0 where
  pub each : (k : ℕ) → k < length ns → get_or marks k no_mark ≡ formula_mark t κ (formula_at ns k)

-- the relation at node k of a formula if that is needed, none if it is not; needed nodes are a set, bit k for node k
abbrev pub needed_relation : Table → View Atom → List (formula.Node Atom) → ℕ → ℕ → List ℕ
needed_relation t κ ns needed k = cond (has needed k) (formula_relation t κ (formula_at ns k)) no_relation

-- the same at each of a formula's nodes, none past the last one
unfoldable pub list_relations : Table → View Atom → List (formula.Node Atom) → ℕ → List (List ℕ)
list_relations t κ ns needed = sets (replicate limits.nodes no_relation) 0 (list_below (length ns) (needed_relation t κ ns needed))

-- the relations of a component at the needed nodes, whichever formula the list has; inputs are counted, and may be any that many
abbrev pub RelatedNodes : Component → List ℕ → List Node → List Mark → ℕ → List (List ℕ) → Type 0
RelatedNodes c compared nodes marks needed r =
    (ins : List ℕ) → length ins ≡ c.table.inputs → let t = reading_table c ins in
    (κ : View Atom) → Sees t κ → Comparing c.table.states compared κ → (ns : List (formula.Node Atom)) → Listing nodes (length nodes) ns → Closed ns needed
    → Marked t κ ns marks → r ≡ list_relations t κ ns needed

-- how far a loop over the nodes is: the relations of the needed ones among the first k are there
pub record Relating (c : Component) (compared : List ℕ) (nodes : List Node) (marks : List Mark) (needed k : ℕ) (r : List (List ℕ)) : Type 0 where
  pub reached : k ≤ length nodes
  pub each : (ins : List ℕ) → length ins ≡ c.table.inputs → let t = reading_table c ins in
      (κ : View Atom) → Sees t κ → Comparing c.table.states compared κ → (ns : List (formula.Node Atom)) → Listing nodes (length nodes) ns → Closed ns needed
      → Marked t κ ns marks → Written (replicate limits.nodes no_relation) 0 (length nodes) (λ k. needed_relation t κ ns needed k ∷ []) k r

-- related by each of these of the relations: the first so many of a list of their numbers
abbrev pub related_by : ℕ → List (List ℕ) → List ℕ → List ℕ
related_by states relations ks = rows states (λ x y. all_of (λ k. rel (get_or relations k []) x y) ks)

-- the relation of component c at every root of a list
abbrev pub roots_relation : meaning.Instrument → ℕ → List ℕ → List ℕ
roots_relation I c roots = rows (table I c).states (rel_all_b (table I c) (view_of I c) (root_formulas I roots))

-- it is component c of a good file's contents, whose formula the nodes list; the marks are its own, and these signals are listed as inputs
pub record MarkedComponent (r : Component) (nodes : List Node) (marks : List Mark) (read : ℕ) (k : Contents) (c : ℕ) : Type 0 where
  pub promised : Promised limits k
  pub here : c < components (instrument_of k)
  pub is : IsComponent (component_at k c) r
  pub listing : Listing nodes (length nodes) k.nodes
  pub signals : ReadSignals k read
  pub marked : marks ≡ list_marks (table (instrument_of k) c) (view_of (instrument_of k) c) k.nodes

-- the roots are nodes of the formula, and the needed nodes are the roots and those under them
pub record Needed (k : Contents) (roots : Roots) (needed : ℕ) : Type 0 where
  pub good : GoodRoots (length k.nodes) roots
  pub under : needed ≡ under_roots k.nodes (listed_roots roots)

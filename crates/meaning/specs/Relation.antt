-- When two states of a component are related for a formula (document 01, Classes): at each node by the largest relation that keeps the
-- node's rule. It depends on the component's own table, the formula and what is compared of the outputs, and on nothing else.
use Rattle.std.specs.Prelude.{◌≡◌, Bool, T, ℕ, ◌<◌}
use Rattle.meaning.specs.Table.{Table, assignments, Successor}
use Rattle.meaning.specs.Formula.{Formula, top, atom, neg, or, ex, eg, eu}
use Rattle.meaning.specs.View.{View}
use Rattle.meaning.specs.Marks.{Pass, Fail}

-- the pairs of X lie in Y
abbrev pub InsidePairs : Table → (ℕ → ℕ → Type 0) → (ℕ → ℕ → Type 0) → Type 0
InsidePairs t X Y = (x y : ℕ) → x < t.states → y < t.states → X x y → Y x y

module _ (t : Table) (compared : ℕ → ℕ) where
  -- on every assignment each successor of x that is not F has a related successor of y
  abbrev pub Matched : (ℕ → Type 0) → (ℕ → ℕ → Type 0) → ℕ → ℕ → Type 0
  Matched F R x y = (a : ℕ) → a < assignments t → (u : ℕ) → Successor t x a u → (F u → ⊥) → (v : ℕ) × Successor t y a v × R u v

  -- equal compared outputs, and matched both ways
  pub record Alike (F : ℕ → Type 0) (R : ℕ → ℕ → Type 0) (x y : ℕ) : Type 0 where
    pub same : compared x ≡ compared y
    pub forth : Matched F R x y
    pub back : Matched F (λ u v. R v u) y x

  -- both are P, both are Q, or they are alike
  pub data Rule (P Q F : ℕ → Type 0) (R : ℕ → ℕ → Type 0) (x y : ℕ) : Type 0 where
    passed : P x → P y → Rule P Q F R x y
    failed : Q x → Q y → Rule P Q F R x y
    alike : Alike F R x y → Rule P Q F R x y

  -- The relation of EG and EU, whose rule speaks of the relation itself: E is the operands' relation, P and F are PASS and FAIL of the node.
  -- Each pair of a relation that keeps the rule; and membership in the largest: in some such relation.
  abbrev pub KeepsRule : (ℕ → ℕ → Type 0) → (ℕ → Type 0) → (ℕ → Type 0) → (ℕ → ℕ → Type 0) → Type 0
  KeepsRule E P F R = InsidePairs t R (λ x y. E x y × Rule P F F R x y)

  pub record LargestRelation (E : ℕ → ℕ → Type 0) (P F : ℕ → Type 0) (x y : ℕ) : Type 0 where
    pub rel : ℕ → ℕ → Bool
    pub here : T (rel x y)
    pub keeps : KeepsRule E P F (λ u v. T (rel u v))

module _ {A : Type 0} (t : Table) (κ : View A) where
  -- the relation, kind by kind; at atoms as the view says
  abbrev pub Rel : Formula A → ℕ → ℕ → Type 0
  Rel top x y = Unit {0}
  Rel (atom a) x y = T (κ.related a x y)
  Rel (neg φ) x y = Rel φ x y
  Rel (or φ ψ) x y = Rel φ x y × Rel ψ x y
  Rel (ex φ) x y = Rel φ x y × Rule t κ.compared (Pass t κ (ex φ)) (Fail t κ (ex φ)) (Fail t κ φ) (Rel φ) x y
  Rel (eg φ) x y = LargestRelation t κ.compared (Rel φ) (Pass t κ (eg φ)) (Fail t κ (eg φ)) x y
  Rel (eu φ ψ) x y = LargestRelation t κ.compared (λ u v. Rel φ u v × Rel ψ u v) (Pass t κ (eu φ ψ)) (Fail t κ (eu φ ψ)) x y

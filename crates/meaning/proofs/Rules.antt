-- Rules that keep to each other give each node what keeps to each other (specs/Reference/Rules).
use mathlib.Core.Path.{◌≡◌, refl, ap, ap₂, ◌∙◌}
use mathlib.Core.Logic.{◌⊎◌, inl, inr}
use Prim.Native.Nat.{ℕ}
use Rattle.meaning.specs.Formula as formula
use Rattle.meaning.specs.Formula.{Formula}
use Rattle.meaning.specs.Nodes.{Node, Operand, atom, eg, eu, ex, formula_of, formula_with, neg, of_eg, of_eu_l, of_eu_r, of_ex, of_neg, of_or_l, of_or_r, or, top}
use Rattle.meaning.specs.Reference.Rules.{Leaf, Rules, by_rules, named, node_has, on_leaves, operand}

-- operand i stands in what a node's formula is made of
abbrev Stands : {A : Type 0} → ℕ → Formula (Leaf A) → Type 0
Stands i formula.top = ⊥
Stands i (formula.atom (named a)) = ⊥
Stands i (formula.atom (operand j)) = i ≡ j
Stands i (formula.neg φ) = Stands i φ
Stands i (formula.or φ ψ) = Stands i φ ⊎ Stands i ψ
Stands i (formula.ex φ) = Stands i φ
Stands i (formula.eg φ) = Stands i φ
Stands i (formula.eu φ ψ) = Stands i φ ⊎ Stands i ψ

-- a node's formula over its leaves
abbrev leaves : {A : Type 0} → Node A → Formula (Leaf A)
leaves m = formula_with (λ a. formula.atom (named a)) m (λ i. formula.atom (operand i))

-- what holds of every operand of a node holds of all that stand in its formula
operands_stand : {A : Type 0} (P : ℕ → Type 0) (m : Node A) → ((i : ℕ) → Operand i m → P i) → (i : ℕ) → Stands i (leaves m) → P i
operands_stand P top h i s = absurd s
operands_stand P (atom a) h i s = absurd s
operands_stand P (neg j) h i s = rw s (h j of_neg)
operands_stand P (or j k) h i (inl s) = rw s (h j of_or_l)
operands_stand P (or j k) h i (inr s) = rw s (h k of_or_r)
operands_stand P (ex j) h i s = rw s (h j of_ex)
operands_stand P (eg j) h i s = rw s (h j of_eg)
operands_stand P (eu j k) h i (inl s) = rw s (h j of_eu_l)
operands_stand P (eu j k) h i (inr s) = rw s (h k of_eu_r)

-- Q holds between what two sets of rules give, at each constructor
pub record Keeps {ℓ k} {A : Type 0} {X : Type ℓ} {Y : Type k} (Q : X → Y → Type 0) (R : Rules A X) (S : Rules A Y) : Type (ℓ ⊔ k) where
  pub top : Q R.top S.top
  pub atom : (a : A) → Q (R.atom a) (S.atom a)
  pub neg : (x : X) (y : Y) → Q x y → Q (R.neg x) (S.neg y)
  pub or : (x u : X) (y v : Y) → Q x y → Q u v → Q (R.or x u) (S.or y v)
  pub ex : (x : X) (y : Y) → Q x y → Q (R.ex x) (S.ex y)
  pub eg : (x : X) (y : Y) → Q x y → Q (R.eg x) (S.eg y)
  pub eu : (x u : X) (y v : Y) → Q x y → Q u v → Q (R.eu x u) (S.eu y v)

module _ {ℓ k} {A : Type 0} {X : Type ℓ} {Y : Type k} (Q : X → Y → Type 0) (R : Rules A X) (S : Rules A Y) (keeps : Keeps Q R S) where
  -- so it holds between what a node has
  module _ (f : ℕ → X) (g : ℕ → Y) where
    leaves_keep : (φ : Formula (Leaf A)) → ((i : ℕ) → Stands i φ → Q (f i) (g i)) → Q (by_rules (on_leaves R f) φ) (by_rules (on_leaves S g) φ)
    leaves_keep formula.top h = keeps.top
    leaves_keep (formula.atom (named a)) h = keeps.atom a
    leaves_keep (formula.atom (operand i)) h = h i refl
    leaves_keep (formula.neg φ) h = keeps.neg _ _ (leaves_keep φ h)
    leaves_keep (formula.or φ ψ) h = keeps.or _ _ _ _ (leaves_keep φ (λ i s. h i (inl s))) (leaves_keep ψ (λ i s. h i (inr s)))
    leaves_keep (formula.ex φ) h = keeps.ex _ _ (leaves_keep φ h)
    leaves_keep (formula.eg φ) h = keeps.eg _ _ (leaves_keep φ h)
    leaves_keep (formula.eu φ ψ) h = keeps.eu _ _ _ _ (leaves_keep φ (λ i s. h i (inl s))) (leaves_keep ψ (λ i s. h i (inr s)))

    pub node_keeps : (m : Node A) → ((i : ℕ) → Operand i m → Q (f i) (g i)) → Q (node_has R f m) (node_has S g m)
    node_keeps m h = leaves_keep (leaves m) (operands_stand (λ i. Q (f i) (g i)) m h)

-- equal operands, equal nodes
pub node_same_rules : {A X : Type 0} (R : Rules A X) (m : Node A) (f g : ℕ → X) → ((i : ℕ) → Operand i m → f i ≡ g i) → node_has R f m ≡ node_has R g m
node_same_rules {A} {X} R m f g =
    node_keeps (λ x y. x ≡ y) R R
    (record {
      top = refl;
      atom = λ a. refl;
      neg = λ x y e. ap R.neg e;
      or = λ x u y v e d. ap₂ R.or e d;
      ex = λ x y e. ap R.ex e;
      eg = λ x y e. ap R.eg e;
      eu = λ x u y v e d. ap₂ R.eu e d;
    }) f g m

-- the constructors themselves as rules: what a node has is its formula
abbrev pub formula_rules : {A : Type 0} → Rules A (Formula A)
formula_rules =
    record { top = formula.top; atom = formula.atom; neg = formula.neg; or = formula.or; ex = formula.ex; eg = formula.eg; eu = formula.eu }

pub node_formula : {A : Type 0} (m : Node A) (f : ℕ → Formula A) → node_has formula_rules f m ≡ formula_of m f
node_formula top f = refl
node_formula (atom a) f = refl
node_formula (neg i) f = refl
node_formula (or i j) f = refl
node_formula (ex i) f = refl
node_formula (eg i) f = refl
node_formula (eu i j) f = refl

-- a value of formulas that goes by rules: what a node has is the value of its formula
pub record Follows {A X : Type 0} (R : Rules A X) (value : Formula A → X) : Type 0 where
  pub top : R.top ≡ value formula.top
  pub atom : (a : A) → R.atom a ≡ value (formula.atom a)
  pub neg : (φ : Formula A) → R.neg (value φ) ≡ value (formula.neg φ)
  pub or : (φ ψ : Formula A) → R.or (value φ) (value ψ) ≡ value (formula.or φ ψ)
  pub ex : (φ : Formula A) → R.ex (value φ) ≡ value (formula.ex φ)
  pub eg : (φ : Formula A) → R.eg (value φ) ≡ value (formula.eg φ)
  pub eu : (φ ψ : Formula A) → R.eu (value φ) (value ψ) ≡ value (formula.eu φ ψ)

module _ {A X : Type 0} (R : Rules A X) (value : Formula A → X) (follows : Follows R value) where
  follows_keeps : Keeps (λ x φ. x ≡ value φ) R formula_rules
  follows_keeps =
      record {
        top = follows.top;
        atom = follows.atom;
        neg = λ x φ e. ap R.neg e ∙ follows.neg φ;
        or = λ x u φ ψ e d. ap₂ R.or e d ∙ follows.or φ ψ;
        ex = λ x φ e. ap R.ex e ∙ follows.ex φ;
        eg = λ x φ e. ap R.eg e ∙ follows.eg φ;
        eu = λ x u φ ψ e d. ap₂ R.eu e d ∙ follows.eu φ ψ;
      }

  pub node_value : (m : Node A) (at : ℕ → X) (f : ℕ → Formula A) → ((i : ℕ) → Operand i m → at i ≡ value (f i))
      → node_has R at m ≡ value (formula_of m f)
  node_value m at f e = node_keeps (λ x φ. x ≡ value φ) R formula_rules follows_keeps at f m e ∙ ap value (node_formula m f)

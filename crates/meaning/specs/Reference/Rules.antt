-- Rules: what each constructor of a formula makes of what its operands have. Truth, marks and relations go by such rules; what a node has is what
-- its formula has, so that a kind of node is spelled out in formula_of alone.
use Rattle.std.specs.Prelude.{ℕ}
use Rattle.meaning.specs.Formula.{Formula, top, atom, neg, or, ex, eg, eu}
use Rattle.meaning.specs.Nodes.{Node, formula_with}

pub record Rules {ℓ} (A : Type 0) (X : Type ℓ) : Type ℓ where
  pub top : X
  pub atom : A → X
  pub neg : X → X
  pub or : X → X → X
  pub ex : X → X
  pub eg : X → X
  pub eu : X → X → X

-- what a formula has
module _ {ℓ} {A : Type 0} {X : Type ℓ} (R : Rules A X) where
  abbrev pub by_rules : Formula A → X
  by_rules top = R.top
  by_rules (atom a) = R.atom a
  by_rules (neg φ) = R.neg (by_rules φ)
  by_rules (or φ ψ) = R.or (by_rules φ) (by_rules ψ)
  by_rules (ex φ) = R.ex (by_rules φ)
  by_rules (eg φ) = R.eg (by_rules φ)
  by_rules (eu φ ψ) = R.eu (by_rules φ) (by_rules ψ)

-- what a node's formula is made of: the node's atom, and its operands
pub data Leaf (A : Type 0) : Type 0 where
  named : A → Leaf A
  operand : ℕ → Leaf A

module _ {ℓ} {A : Type 0} {X : Type ℓ} (R : Rules A X) (at : ℕ → X) where
  abbrev leaf : Leaf A → X
  leaf (named a) = R.atom a
  leaf (operand i) = at i

  abbrev pub on_leaves : Rules (Leaf A) X
  on_leaves = record { top = R.top; atom = leaf; neg = R.neg; or = R.or; ex = R.ex; eg = R.eg; eu = R.eu }

  -- what a node has, where `at` gives what its operands have
  abbrev pub node_has : Node A → X
  node_has m = by_rules on_leaves (formula_with (λ a. atom (named a)) m (λ i. atom (operand i)))

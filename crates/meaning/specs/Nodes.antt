-- A formula as the file lists it: nodes whose operands are numbers of earlier nodes (document 01, The instrument file).
use Rattle.std.specs.Prelude.{List, get_or, ℕ, zero, suc, ◌<◌}
use Rattle.meaning.specs.Formula.{Formula}

pub data Node (A : Type 0) : Type 0 where
  top : Node A
  atom : A → Node A
  neg : ℕ → Node A
  or : ℕ → ℕ → Node A
  ex : ℕ → Node A
  eg : ℕ → Node A
  eu : ℕ → ℕ → Node A

-- node k is an operand
pub data Operand {A : Type 0} (k : ℕ) : Node A → Type 0 where
  of_neg : Operand k (neg k)
  of_or_l : {j : ℕ} → Operand k (or k j)
  of_or_r : {j : ℕ} → Operand k (or j k)
  of_ex : Operand k (ex k)
  of_eg : Operand k (eg k)
  of_eu_l : {j : ℕ} → Operand k (eu k j)
  of_eu_r : {j : ℕ} → Operand k (eu j k)

-- the formula of a node, where g and f give the formulas of its atom and of its operands
abbrev pub formula_with : {A B : Type 0} → (A → Formula B) → Node A → (ℕ → Formula B) → Formula B
formula_with g top f = Formula.top
formula_with g (atom a) f = g a
formula_with g (neg i) f = Formula.neg (f i)
formula_with g (or i j) f = Formula.or (f i) (f j)
formula_with g (ex i) f = Formula.ex (f i)
formula_with g (eg i) f = Formula.eg (f i)
formula_with g (eu i j) f = Formula.eu (f i) (f j)

-- the formula of a node, from its operands' formulas
abbrev pub formula_of : {A : Type 0} → Node A → (ℕ → Formula A) → Formula A
formula_of m f = formula_with Formula.atom m f

module _ {A : Type 0} (nodes : List (Node A)) where
  abbrev pub node_at : ℕ → Node A
  node_at k = get_or nodes k top

  -- every operand is an earlier node
  abbrev pub Earlier : Type 0
  Earlier = (k i : ℕ) → Operand i (node_at k) → i < k

  -- node k unfolded so many levels deep
  abbrev pub unfolded : ℕ → ℕ → Formula A
  unfolded zero k = Formula.top
  unfolded (suc d) k = formula_of (node_at k) (unfolded d)

  -- the formula of node k: where operands are earlier nodes, k + 1 levels reach them all (proofs/File/Nodes, formula_at)
  abbrev pub formula_at : ℕ → Formula A
  formula_at k = unfolded (suc k) k

  -- node j is node k or stands under it, through operands
  pub data Beneath (j : ℕ) : ℕ → Type 0 where
    itself : Beneath j j
    through : {i k : ℕ} → Operand i (node_at k) → Beneath j i → Beneath j k

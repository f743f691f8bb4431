-- The formula of a node is its kind applied to its operands' formulas; what stands under a node stands under its formula.
use mathlib.Core.Path.{◌≡◌, ap, ap₂, refl, subst, sym}
use mathlib.Core.Logic.{◌↔◌, inl, inr}
use mathlib.Core.Bool.{Bool, ◌&&◌, ◌||◌, false, true}
use mathlib.Core.List.{List}
use lib.Dec.{T, eqb, eqb_refl, eqb→eq, ltb, ltb→lt}
use lib.ListN.{get_or-eq_default, length}
use native.Mathlib.Decide.{dec_lt}
use native.Mathlib.Omega.{arith}
use Prim.Native.Nat.{◌-◌, ◌<◌, ◌≤◌, suc, zero, ℕ}
use Rattle.meaning.specs.Formula.{Formula}
use Rattle.meaning.specs.Nodes.{Beneath, Earlier, Node, Operand, formula_at, formula_of, node_at, of_eg, of_eu_l, of_eu_r, of_ex, of_neg}
use Rattle.meaning.specs.Nodes.{of_or_l, of_or_r, through, unfolded}
use Rattle.meaning.specs.Reference.Nodes.{beneath_b, earlier_b, operands}
use Rattle.meaning.specs.Reference.Tests.{all_of, any_of}
use Rattle.meaning.specs.Tests.{listed}
use Rattle.meaning.proofs.Basic.Booleans.{and_l, and_r, or_l, or_out, or_r}
use Rattle.meaning.proofs.Basic.Bounded.{all_out}
use Rattle.meaning.proofs.Basic.Lists.{any_of_places}
use Rattle.meaning.proofs.File.Formulas.{Part, Under, under}

formula_same : {A : Type 0} (m : Node A) (f g : ℕ → Formula A) → ((i : ℕ) → Operand i m → f i ≡ g i) → formula_of m f ≡ formula_of m g
formula_same Node.top f g h = refl
formula_same (Node.atom a) f g h = refl
formula_same (Node.neg i) f g h = ap Formula.neg (h i of_neg)
formula_same (Node.or i j) f g h = ap₂ Formula.or (h i of_or_l) (h j of_or_r)
formula_same (Node.ex i) f g h = ap Formula.ex (h i of_ex)
formula_same (Node.eg i) f g h = ap Formula.eg (h i of_eg)
formula_same (Node.eu i j) f g h = ap₂ Formula.eu (h i of_eu_l) (h j of_eu_r)

-- an operand's formula is an operand of the node's
operand_part : {A : Type 0} (m : Node A) (f : ℕ → Formula A) (i : ℕ) → Operand i m → Part (f i) (formula_of m f)
operand_part m f i of_neg = Part.of_neg
operand_part m f i of_or_l = Part.of_or_l
operand_part m f i of_or_r = Part.of_or_r
operand_part m f i of_ex = Part.of_ex
operand_part m f i of_eg = Part.of_eg
operand_part m f i of_eu_l = Part.of_eu_l
operand_part m f i of_eu_r = Part.of_eu_r

-- tests of the listed operands
module _ {A : Type 0} (p : ℕ → Bool) where
  all_operands : (m : Node A) (i : ℕ) → Operand i m → T (all_of p (operands m)) → T (p i)
  all_operands m i of_neg h = and_l (p i) true h
  all_operands m i (of_or_l {j = j}) h = and_l (p i) (p j && true) h
  all_operands m i (of_or_r {j = j}) h = and_l (p i) true (and_r (p j) (p i && true) h)
  all_operands m i of_ex h = and_l (p i) true h
  all_operands m i of_eg h = and_l (p i) true h
  all_operands m i (of_eu_l {j = j}) h = and_l (p i) (p j && true) h
  all_operands m i (of_eu_r {j = j}) h = and_l (p i) true (and_r (p j) (p i && true) h)

  operand_any : (m : Node A) (i : ℕ) → Operand i m → T (p i) → T (any_of p (operands m))
  operand_any m i of_neg h = or_l (p i) false h
  operand_any m i (of_or_l {j = j}) h = or_l (p i) (p j || false) h
  operand_any m i (of_or_r {j = j}) h = or_r (p j) (p i || false) (or_l (p i) false h)
  operand_any m i of_ex h = or_l (p i) false h
  operand_any m i of_eg h = or_l (p i) false h
  operand_any m i (of_eu_l {j = j}) h = or_l (p i) (p j || false) h
  operand_any m i (of_eu_r {j = j}) h = or_r (p j) (p i || false) (or_l (p i) false h)

  -- one of one, and one of two
  one_of : (m : Node A) (i : ℕ) → Operand i m → T (p i || false) → (k : ℕ) × Operand k m × T (p k)
  one_of m i o h = elim (or_out (p i) false h) [ inl a ↦ (i, o, a) | inr z ↦ absurd z ]

  two_of : (m : Node A) (i j : ℕ) → Operand i m → Operand j m → T (p i || (p j || false)) → (k : ℕ) × Operand k m × T (p k)
  two_of m i j o q h = elim (or_out (p i) (p j || false) h) [ inl a ↦ (i, o, a) | inr b ↦ one_of m j q b ]

  any_operand : (m : Node A) → T (any_of p (operands m)) → (k : ℕ) × Operand k m × T (p k)
  any_operand Node.top h = absurd h
  any_operand (Node.atom a) h = absurd h
  any_operand (Node.neg i) h = one_of (Node.neg i) i of_neg h
  any_operand (Node.or i j) h = two_of (Node.or i j) i j of_or_l of_or_r h
  any_operand (Node.ex i) h = one_of (Node.ex i) i of_ex h
  any_operand (Node.eg i) h = one_of (Node.eg i) i of_eg h
  any_operand (Node.eu i j) h = two_of (Node.eu i j) i j of_eu_l of_eu_r h

-- the operands are those that are listed
pub operand_listed : {A : Type 0} (m : Node A) (j : ℕ) → Operand j m ↔ T (listed (operands m) j)
operand_listed m j = (
  λ o. subst T (sym (any_of_places (λ i. eqb i j) 0 (operands m))) (operand_any (λ i. eqb i j) m j o (eqb_refl j)),
  λ h.
      let (k, o, e) = any_operand (λ i. eqb i j) m (subst T (any_of_places (λ i. eqb i j) 0 (operands m)) h) in
      subst (λ k. Operand k m) (eqb→eq k j e) o,
)

no_operand : {A : Type 0} (i : ℕ) → Operand {A = A} i Node.top → ⊥
no_operand {A} i o = all_operands {A = A} (λ k. false) Node.top i o tt

module _ {A : Type 0} (nodes : List (Node A)) where
  pub earlier_sound : T (earlier_b nodes) → Earlier nodes
  earlier_sound h k i o =
      elim (dec_lt k (length nodes)) [
        | yes l ↦
            ltb→lt i k (all_operands (λ i. ltb i k) (node_at nodes k) i o
            (all_out (length nodes) (λ k. all_of (λ i. ltb i k) (operands (node_at nodes k))) h k l))
        | no l ↦ absurd (no_operand i (subst (λ m. Operand i m) (get_or-eq_default nodes Node.top {n = k} (omega arith)) o))
      ]

  pub beneath_out : (d j k : ℕ) → T (beneath_b nodes d j k) → Beneath nodes j k
  beneath_out zero j k h = absurd h
  beneath_out (suc d) j k h =
      elim (or_out (eqb j k) (any_of (beneath_b nodes d j) (operands (node_at nodes k))) h) [
        | inl e ↦ subst (λ k. Beneath nodes j k) (eqb→eq j k e) Beneath.itself
        | inr m ↦
            let (i, o, b) = any_operand (beneath_b nodes d j) (node_at nodes k) m in
            through o (beneath_out d j i b)
      ]

module _ {A : Type 0} (nodes : List (Node A)) (earlier : Earlier nodes) where
  pub beneath_in : (d j k : ℕ) → k < d → Beneath nodes j k → T (beneath_b nodes d j k)
  beneath_in zero j k l b = absurd (omega arith)
  beneath_in (suc d) j k l Beneath.itself = or_l (eqb j j) (any_of (beneath_b nodes d j) (operands (node_at nodes j))) (eqb_refl j)
  beneath_in (suc d) j k l (through {i = i} o b) =
      let z = earlier k i o in
      or_r (eqb j k) (any_of (beneath_b nodes d j) (operands (node_at nodes k)))
      (operand_any (beneath_b nodes d j) (node_at nodes k) i o (beneath_in d j i (omega arith) b))

  pub beneath_le : (j k : ℕ) → Beneath nodes j k → j ≤ k
  beneath_le j k Beneath.itself = omega arith
  beneath_le j k (through {i = i} o b) = let z = earlier k i o in let y = beneath_le j i b in omega arith

  -- a node under the root is one of the nodes
  pub beneath_listed : (k : ℕ) → 0 < length nodes → Beneath nodes k (length nodes - 1) → k < length nodes
  beneath_listed k some b = omega (arith, beneath_le k (length nodes - 1) b)

  enough : (d e k : ℕ) → k < d → k < e → unfolded nodes d k ≡ unfolded nodes e k
  enough zero e k l m = absurd (omega arith)
  enough (suc d) zero k l m = absurd (omega arith)
  enough (suc d) (suc e) k l m =
      formula_same (node_at nodes k) (unfolded nodes d) (unfolded nodes e) (λ i o. let z = earlier k i o in enough d e i (omega arith) (omega arith))

  -- node k's formula, of its operands'
  pub formula_at_lem : (k : ℕ) → formula_at nodes k ≡ formula_of (node_at nodes k) (formula_at nodes)
  formula_at_lem k =
      formula_same (node_at nodes k) (unfolded nodes k) (formula_at nodes)
      (λ i o. let z = earlier k i o in enough k (suc i) i (omega arith) (omega arith))

  pub beneath_under : (j k : ℕ) → Beneath nodes j k → Under (formula_at nodes j) (formula_at nodes k)
  beneath_under j k Beneath.itself = Under.itself
  beneath_under j k (through {i = i} o b) =
      under (subst (λ φ. Part (formula_at nodes i) φ) (sym (formula_at_lem k)) (operand_part (node_at nodes k) (formula_at nodes) i o))
      (beneath_under j i b)

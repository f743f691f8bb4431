-- The operands of a node in a list, and tests of node lists.
use Rattle.std.specs.Prelude.{Bool, false, ◌||◌, List, [], ◌∷◌, length, eqb, ltb, ℕ, zero, suc}
use Rattle.meaning.specs.Nodes.{Node, top, atom, neg, or, ex, eg, eu, node_at}
use Rattle.meaning.specs.Reference.Tests.{all_below, all_of, any_of}

abbrev pub operands : {A : Type 0} → Node A → List ℕ
operands top = []
operands (atom a) = []
operands (neg i) = i ∷ []
operands (or i j) = i ∷ (j ∷ [])
operands (ex i) = i ∷ []
operands (eg i) = i ∷ []
operands (eu i j) = i ∷ (j ∷ [])

module _ {A : Type 0} (nodes : List (Node A)) where
  abbrev pub earlier_b : Bool
  earlier_b = all_below (length nodes) (λ k. all_of (λ i. ltb i k) (operands (node_at nodes k)))

  -- node j is node k or stands under it, so many levels deep
  abbrev pub beneath_b : ℕ → ℕ → ℕ → Bool
  beneath_b zero j k = false
  beneath_b (suc d) j k = eqb j k || any_of (beneath_b d j) (operands (node_at nodes k))

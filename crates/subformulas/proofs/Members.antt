-- Which nodes are in the set of the roots and the nodes under them: the roots, and with each node its operands.
use mathlib.Core.Path.{sym, subst}
use mathlib.Core.Logic.{◌↔◌, inl, inr}
use mathlib.Core.List.{List, [], ◌∷◌}
use lib.Dec.{T}
use lib.ListN.{length, get_or}
use native.Mathlib.Omega.{arith}
use Prim.Native.Nat.{ℕ, zero, suc, ◌<◌}
use Rattle.words.specs.Sets.{has}
use Rattle.words.proofs.Built.{has_built, has_built_lt}
use Rattle.meaning.specs.Tests.{All, Any}
use Rattle.meaning.specs.Atoms.{Atom}
use Rattle.meaning.specs.Nodes.{Node, node_at, Operand, Beneath, through, Earlier}
use Rattle.meaning.specs.Reference.Nodes.{beneath_b}
use Rattle.meaning.specs.Roots.{under_roots_b}
use Rattle.meaning.proofs.Basic.Lists.{any_test}
use Rattle.meaning.proofs.File.Nodes.{beneath_in, beneath_out, beneath_le}
use Rattle.subformulas.specs.Under.{under_roots, Closed}

-- some member of a list, from what holds of each
pub any_map : {X : Type 0} {P Q : X → Type 0} → ((x : X) → P x → Q x) → (xs : List X) → Any P xs → Any Q xs
any_map f [] h = h
any_map f (x ∷ xs) (inl h) = inl (f x h)
any_map f (x ∷ xs) (inr h) = inr (any_map f xs h)

pub any_at : (P : ℕ → Type 0) (rs : List ℕ) (j : ℕ) → j < length rs → P (get_or rs j 0) → Any P rs
any_at P [] j l h = absurd (omega arith)
any_at P (r ∷ rs) zero l h = inl h
any_at P (r ∷ rs) (suc j) l h = inr (any_at P rs j (omega arith) h)

-- some member that all have a property of
pub any_all : {X Y : Type 0} {P Q : X → Type 0} → ((x : X) → P x → Q x → Y) → (xs : List X) → Any P xs → All Q xs → Y
any_all f [] h a = absurd h
any_all f (x ∷ xs) (inl h) a = f x h a.0
any_all f (x ∷ xs) (inr h) a = any_all f xs h a.1

module _ (nodes : List (Node Atom)) where
  -- an operand of a node under another is under it
  pub beneath_operand : (j i k : ℕ) → Beneath nodes i k → Operand j (node_at nodes i) → Beneath nodes j k
  beneath_operand j i k Beneath.itself o = through o Beneath.itself
  beneath_operand j i k (through {i = h} q b) o = through q (beneath_operand j i h b o)

  module _ (earlier : Earlier nodes) (roots : List ℕ) (each : All (λ r. r < length nodes) roots) where
    -- tested, under some root
    pub under_test : (j : ℕ) → T (under_roots_b nodes roots j) ↔ Any (λ r. Beneath nodes j r) roots
    under_test j =
        any_test (λ r. Beneath nodes j r) (λ r. beneath_b nodes (suc r) j r)
        (λ r. (beneath_out nodes (suc r) j r, beneath_in nodes earlier (suc r) j r (omega arith))) roots

    pub set_out : (j : ℕ) → T (has (under_roots nodes roots) j) → Any (λ r. Beneath nodes j r) roots
    unfolding under_roots
    set_out j h =
        let l = has_built_lt (length nodes) (under_roots_b nodes roots) j h in
        (under_test j).0 (subst T (has_built (length nodes) (under_roots_b nodes roots) j l) h)

    pub set_in : (j : ℕ) → Any (λ r. Beneath nodes j r) roots → T (has (under_roots nodes roots) j)
    unfolding under_roots
    set_in j b =
        let l : j < length nodes = any_all (λ r b h. omega (arith, beneath_le nodes earlier j r b, h)) roots b each in
        subst T (sym (has_built (length nodes) (under_roots_b nodes roots) j l)) ((under_test j).1 b)

    -- a root is in it, and the operands of each member
    pub root_under : (j : ℕ) → j < length roots → T (has (under_roots nodes roots) (get_or roots j 0))
    root_under j l = set_in (get_or roots j 0) (any_at (λ r. Beneath nodes (get_or roots j 0) r) roots j l Beneath.itself)

    pub under_closed : Closed nodes (under_roots nodes roots)
    under_closed = record { operands = λ k i h o. set_in i (any_map (λ r b. beneath_operand i k r b o) roots (set_out k h)) }

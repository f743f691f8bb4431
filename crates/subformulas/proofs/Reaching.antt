-- One way down from the roots finds them and the nodes under them: the start, one node, the end.
use mathlib.Core.Path.{◌≡◌, subst}
use mathlib.Core.Logic.{◌⊎◌, ◌↔◌, inl, inr}
use mathlib.Core.Option.{some}
use mathlib.Core.List.{List}
use lib.Dec.{T}
use lib.ListN.{length, get_or}
use lib.Pow.{pow_mono}
use native.Mathlib.Decide.{ℕ_discrete}
use native.Mathlib.Omega.{arith}
use Prim.Native.Nat.{ℕ, suc, ◌^◌, ◌≤◌, ◌<◌}
use Rattle.words.specs.Sets.{has}
use Rattle.words.proofs.Members.{has_none, same_members}
use Rattle.words.proofs.Built.{built_lt}
use Rattle.meaning.specs.Tests.{All, Any}
use Rattle.meaning.specs.Atoms.{Atom}
use Rattle.meaning.specs.Nodes.{Node, node_at, Operand, Beneath, through, Earlier}
use Rattle.meaning.specs.File.Grammar.{with_all}
use Rattle.meaning.specs.Reference.Nodes.{operands}
use Rattle.meaning.specs.Roots.{under_roots_b}
use Rattle.meaning.proofs.Basic.Booleans.{test_eq}
use Rattle.meaning.proofs.Basic.Lists.{all_map, at_listed, listed_at, places_all}
use Rattle.meaning.proofs.File.Driven.{with_all_listed, with_all_out, with_all_set}
use Rattle.meaning.proofs.File.Nodes.{beneath_le, operand_listed}
use Rattle.instrument.specs.declared.Node as stored
use Rattle.instrument.specs.ByKind.{stored_node}
use Rattle.subformulas.specs.Under.{under_roots, with_operands, Reaching}
use Rattle.subformulas.proofs.Members.{any_all, any_at, any_map, beneath_operand, set_in, set_out}

-- a set and the operands of a node m besides
pub operands_more : (set : ℕ) (n : stored.Node) (m : Node Atom) → stored_node n ≡ some m → (j : ℕ)
    → T (has (with_operands set n) j) ↔ (T (has set j) ⊎ Operand j m)
operands_more set n m e j =
    let l = operand_listed m j in
    rw e (
      λ h. elim (with_all_out set (operands m) j h) [ inl p ↦ inl p | inr p ↦ inr (l.1 p) ],
      λ h. elim h [ inl p ↦ with_all_set set (operands m) j p | inr p ↦ with_all_listed set (operands m) j (l.0 p) ],
    )

module _ (nodes : List (Node Atom)) (earlier : Earlier nodes) (roots : List ℕ) (each : All (λ r. r < length nodes) roots) where
  abbrev Reached : ℕ → ℕ → Type 0
  Reached k set = Reaching nodes roots k set

  pub reaching_start : Reached (length nodes) (with_all 0 roots)
  reaching_start =
      record {
        reached = omega arith;
        begun = places_all (λ r. T (has (with_all 0 roots) r)) 0 roots (λ j l. with_all_listed 0 roots (get_or roots j 0) (at_listed roots j l));
        under = under;
        closed = λ j i l h o. absurd (any_all (λ r b p. omega (arith, beneath_le nodes earlier j r b, p)) roots (under j h) each);
      }
    where
      under : (j : ℕ) → T (has (with_all 0 roots) j) → Any (λ r. Beneath nodes j r) roots
      under j h =
          elim (with_all_out 0 roots j h) [
            | inl a ↦ absurd (subst T (has_none j) a)
            | inr a ↦ let (i, l, e) = listed_at roots j a in any_at (λ r. Beneath nodes j r) roots i l (rw e Beneath.itself)
          ]

  module _ (k set : ℕ) (some : 0 < k) (s : Reached k set) where
    -- node k - 1 is in the set: its operands are put in
    pub reaching_in : (k₁ more : ℕ) → k ≡ suc k₁ → T (has set k₁)
        → ((j : ℕ) → T (has more j) ↔ (T (has set j) ⊎ Operand j (node_at nodes k₁))) → Reached k₁ more
    reaching_in k₁ more e m iff =
        record {
          reached = omega (arith, s.reached);
          begun = all_map (λ r h. (iff r).1 (inl h)) roots s.begun;
          under =
              λ j h.
              elim ((iff j).0 h) [ inl a ↦ s.under j a | inr o ↦ any_map (λ r b. beneath_operand nodes j k₁ r b o) roots (s.under k₁ m) ];
          closed =
              λ j i l h o.
              elim (ℕ_discrete j k₁) [
                | yes p ↦ (iff i).1 (inr (subst (λ j. Operand i (node_at nodes j)) p o))
                | no p ↦
                    elim ((iff j).0 h) [
                      | inl a ↦ (iff i).1 (inl (s.closed j i (omega arith) a o))
                      | inr q ↦ absurd (omega (arith, earlier k₁ j q))
                    ]
              ];
        }

    -- it is not: nothing changes
    pub reaching_out : (k₁ : ℕ) → k ≡ suc k₁ → (T (has set k₁) → ⊥) → Reached k₁ set
    reaching_out k₁ e m =
        record {
          reached = omega (arith, s.reached);
          begun = s.begun;
          under = s.under;
          closed =
              λ j i l h o.
              elim (ℕ_discrete j k₁) [
                | yes p ↦ absurd (m (subst (λ j. T (has set j)) p h))
                | no p ↦ s.closed j i (omega arith) h o
              ];
        }

  -- a set that has the operands of all its members has all nodes under them
  all_under : (set : ℕ) → Reached 0 set → (j k : ℕ) → Beneath nodes j k → T (has set k) → T (has set j)
  all_under set s j k Beneath.itself h = h
  all_under set s j k (through {i = i} o b) h = all_under set s j i b (s.closed k i (omega arith) h o)

  pub reaching_end : (set : ℕ) → set < 2 ^ 32 → length nodes ≤ 32 → Reached 0 set → set ≡ under_roots nodes roots
  unfolding under_roots
  reaching_end set small few s =
      same_members 32 set (under_roots nodes roots) small wide (λ j l.
      test_eq (has set j) (has (under_roots nodes roots) j) (λ h. set_in nodes earlier roots each j (s.under j h)) (λ h.
      any_all (λ r b p. all_under set s j r b p) roots (set_out nodes earlier roots each j h) s.begun))
    where
      wide : under_roots nodes roots < 2 ^ 32
      wide = omega (arith, built_lt (length nodes) (under_roots_b nodes roots), pow_mono few)

-- The sets of signals that the grammar keeps as words, against lists: what is in a set with a list's signals besides, and in the set of the
-- signals that components drive.
use mathlib.Core.Path.{subst}
use mathlib.Core.Logic.{◌↔◌, ◌⊎◌, inl, inr}
use mathlib.Core.List.{List, [], ◌∷◌}
use lib.Dec.{T}
use lib.ListN.{get_or, length}
use native.Mathlib.Omega.{arith}
use Prim.Native.Nat.{◌<◌, suc, zero, ℕ}
use Rattle.words.proofs.Members.{has_insert, insert_in, insert_out}
use Rattle.words.specs.Sets.{has, insert}
use Rattle.meaning.specs.File.Grammar.{Component, driven_by, with_all}
use Rattle.meaning.specs.Tests.{listed}
use Rattle.meaning.proofs.File.Members.{listed_cons, listed_first, listed_others}

-- what is in the set, and what is listed
pub with_all_set : (set : ℕ) (vs : List ℕ) (w : ℕ) → T (has set w) → T (has (with_all set vs) w)
unfolding with_all
with_all_set set [] w h = h
with_all_set set (v ∷ vs) w h = with_all_set (insert set v) vs w (insert_in set v w h)

pub with_all_listed : (set : ℕ) (vs : List ℕ) (w : ℕ) → T (listed vs w) → T (has (with_all set vs) w)
unfolding with_all
with_all_listed set [] w h = absurd h
with_all_listed set (v ∷ vs) w h =
    elim (listed_cons v vs w h) [
      | inl e ↦ with_all_set (insert set v) vs w (subst (λ w. T (has (insert set v) w)) e (has_insert set v))
      | inr l ↦ with_all_listed (insert set v) vs w l
    ]

-- and nothing else
pub with_all_out : (set : ℕ) (vs : List ℕ) (w : ℕ) → T (has (with_all set vs) w) → T (has set w) ⊎ T (listed vs w)
unfolding with_all
with_all_out set [] w h = inl h
with_all_out set (v ∷ vs) w h =
    elim (with_all_out (insert set v) vs w h) [
      | inl k ↦
          elim (insert_out set v w k) [
            | inl a ↦ inl a
            | inr e ↦ inr (subst (λ w. T (listed (v ∷ vs) w)) e (listed_first v vs))
          ]
      | inr l ↦ inr (listed_others v vs w l)
    ]

-- so with what components drive: the signals of the set, and the outputs of each
module _ (none : Component) where
  driven_set : (set : ℕ) (cs : List Component) (w : ℕ) → T (has set w) → T (has (driven_by set cs) w)
  driven_set set [] w h = h
  driven_set set (c ∷ cs) w h = driven_set (with_all set c.outputs) cs w (with_all_set set c.outputs w h)

  driven_listed : (set : ℕ) (cs : List Component) (w i : ℕ) → i < length cs → T (listed (get_or cs i none).outputs w)
      → T (has (driven_by set cs) w)
  driven_listed set [] w i l h = absurd (omega arith)
  driven_listed set (c ∷ cs) w zero l h = driven_set (with_all set c.outputs) cs w (with_all_listed set c.outputs w h)
  driven_listed set (c ∷ cs) w (suc i) l h = driven_listed (with_all set c.outputs) cs w i (omega arith) h

  driven_out : (set : ℕ) (cs : List Component) (w : ℕ) → T (has (driven_by set cs) w)
      → T (has set w) ⊎ ((i : ℕ) × (i < length cs) × T (listed (get_or cs i none).outputs w))
  driven_out set [] w h = inl h
  driven_out set (c ∷ cs) w h =
      elim (driven_out (with_all set c.outputs) cs w h) [
        | inl k ↦ elim (with_all_out set c.outputs w k) [ inl a ↦ inl a | inr l ↦ inr (0, omega arith, l) ]
        | inr (i, l, k) ↦ inr (suc i, omega arith, k)
      ]

  pub has_driven : (set : ℕ) (cs : List Component) (w : ℕ)
      → T (has (driven_by set cs) w) ↔ (T (has set w) ⊎ ((i : ℕ) × (i < length cs) × T (listed (get_or cs i none).outputs w)))
  has_driven set cs w = (
    driven_out set cs w,
    λ h. elim h [ inl a ↦ driven_set set cs w a | inr (i, l, k) ↦ driven_listed set cs w i l k ],
  )

-- What the theorems ask of atoms and of what is compared: of one table, of one component in a combination, of a whole instrument. Signals
-- have all of it (Marks/Atoms).
use mathlib.Core.Path.{◌≡◌}
use mathlib.Core.Logic.{◌≢◌}
use mathlib.Core.Bool.{Bool}
use lib.Dec.{T}
use Prim.Native.Nat.{◌<◌, ℕ}
use Rattle.meaning.specs.Combination.{State}
use Rattle.meaning.specs.Table.{Table, Total, drives, owns}
use Rattle.meaning.specs.Tests.{listed}
use Rattle.meaning.specs.View.{View}
use Rattle.meaning.proofs.Basic.Equivalence.{Equivalence}

-- The table has no dead end; at atoms PASS and FAIL exclude each other, and the relation is an equivalence that keeps them.
pub record Lawful {A : Type 0} (t : Table) (κ : View A) : Type 0 where
  pub total : Total t
  pub clash : (a : A) (x : ℕ) → x < t.states → T (κ.pass a x) → T (κ.fail a x) → ⊥
  pub equivalence : (a : A) → Equivalence t (λ x y. T (κ.related a x y))
  pub passes : (a : A) (x y : ℕ) → x < t.states → y < t.states → T (κ.related a x y) → T (κ.pass a x) → T (κ.pass a y)
  pub fails : (a : A) (x y : ℕ) → x < t.states → y < t.states → T (κ.related a x y) → T (κ.fail a x) → T (κ.fail a y)

-- what is compared of component k fixes the level of every signal that another component reads
abbrev pub Shows : {A : Type 0} → ℕ → (ℕ → Table) → ℕ → View A → Type 0
Shows n S k κ =
    (x y : ℕ) → κ.compared x ≡ κ.compared y → (j : ℕ) → j < n → j ≢ k → (w : ℕ) → T (listed (S j).inputs w)
    → drives (S k) x w ≡ drives (S k) y w

-- the value of an atom is that of the n components' states
abbrev pub Local : {A : Type 0} → ℕ → (A → (ℕ → ℕ) → Bool) → Type 0
Local {A} n val = (a : A) (s u : ℕ → ℕ) → ((i : ℕ) → i < n → s i ≡ u i) → val a s ≡ val a u

module _ {A : Type 0} (n : ℕ) (S : ℕ → Table) (val : A → (ℕ → ℕ) → Bool) where
  -- component k's marks are right at atoms, whatever the other components do
  pub record Sound (k : ℕ) (κ : View A) : Type 0 where
    pub here : k < n
    pub passes : (a : A) (s : State n S) → T (κ.pass a (s.at k)) → T (val a s.at)
    pub fails : (a : A) (s : State n S) → T (κ.fail a (s.at k)) → T (val a s.at) → ⊥

  -- All components together: combined states whose parts are related for an atom give it one value.
  pub record Fits (κ : ℕ → View A) : Type 0 where
    pub sound : (i : ℕ) → i < n → Sound i (κ i)
    pub lawful : (i : ℕ) → i < n → Lawful (S i) (κ i)
    pub local : Local n val
    pub related : (a : A) (s u : State n S) → ((i : ℕ) → i < n → T ((κ i).related a (s.at i) (u.at i))) → val a s.at ≡ val a u.at
    pub shows : (i : ℕ) → i < n → Shows n S i (κ i)
    -- no component reads its own outputs
    pub own : (i : ℕ) → i < n → (w : ℕ) → T (owns (S i) w) → T (listed (S i).inputs w) → ⊥

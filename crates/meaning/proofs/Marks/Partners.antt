-- Demand 3, marks: a component beside partner tables of any number and size. Partners need not drive all other signals that the formula
-- names: the theorem asks less than the demand grants.
use mathlib.Core.Path.{subst, sym}
use mathlib.Core.Logic.{◌≢◌}
use lib.Dec.{T}
use native.Mathlib.Decide.{ℕ_discrete}
use Prim.Native.Nat.{◌<◌, ℕ}
use Rattle.meaning.specs.Atoms.{Atom}
use Rattle.meaning.specs.Combination.{State, Truth}
use Rattle.meaning.specs.Formula.{Formula}
use Rattle.meaning.specs.Instrument.{Accepted, Instrument, Partner, components, table}
use Rattle.meaning.specs.Marks.{Fail, Pass}
use Rattle.meaning.specs.Reference.Marks.{fail_b, pass_b}
use Rattle.meaning.specs.Seen.{value}
use Rattle.meaning.specs.Table.{Table, Total}
use Rattle.meaning.specs.View.{atoms}
use Rattle.meaning.proofs.Marks.Decided.{fail_decides, pass_decides}
use Rattle.meaning.proofs.Marks.Atoms.{atoms_sound}
use Rattle.meaning.proofs.Marks.Sound.{fail_sound, pass_sound}

-- in an accepted instrument the other components are partners of each
pub other_partners : (I : Instrument) → Accepted I → (i j : ℕ) → i < components I → j < components I → j ≢ i → Partner (table I i) (table I j)
other_partners I a i j l k z =
    let good = a.well_formed in
    record { some = good.some j k; total = good.total j k; apart = good.apart i j l k z }

-- the component t and its partners, in any order: t is table k of n
module _ (n : ℕ) (S : ℕ → Table) (k : ℕ) (l : k < n) (total : Total (S k)) (partners : (j : ℕ) → j < n → j ≢ k → Partner (S k) (S j)) where
  totals : (i : ℕ) → i < n → Total (S i)
  totals i m = elim (ℕ_discrete i k) [ yes e ↦ subst (λ i. Total (S i)) (sym e) total | no z ↦ (partners i m z).total ]

  -- in every combined state, a PASS state of the component makes the formula true, a FAIL state false, whatever outputs are compared
  pub marks_beside : (compared : ℕ → ℕ) (φ : Formula Atom) (s : State n S)
      → (Pass (S k) (atoms compared (S k)) φ (s.at k) → Truth n S (value n S) φ s)
      × (Fail (S k) (atoms compared (S k)) φ (s.at k) → Truth n S (value n S) φ s → ⊥)
  marks_beside compared φ s =
      let ok = atoms_sound n S compared k l (λ j m z. (partners j m z).apart) in
      let κ = atoms compared (S k) in
      (pass_sound n S totals (value n S) k κ ok φ s, fail_sound n S totals (value n S) k κ ok φ s)

  -- the same of the computed marks
  pub computed_beside : (compared : ℕ → ℕ) (φ : Formula Atom) (s : State n S)
      → (T (pass_b (S k) (atoms compared (S k)) φ (s.at k)) → Truth n S (value n S) φ s)
      × (T (fail_b (S k) (atoms compared (S k)) φ (s.at k)) → Truth n S (value n S) φ s → ⊥)
  computed_beside compared φ s =
      let κ = atoms compared (S k) in
      let m = marks_beside compared φ s in (
        λ h. m.0 ((pass_decides (S k) κ total φ).sound (s.at k) (s.ok k l) h),
        λ h. m.1 ((fail_decides (S k) κ total φ).sound (s.at k) (s.ok k l) h),
      )

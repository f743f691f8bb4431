-- Marks are right whatever the other components do: a PASS state makes the formula true in every combined state that has it, a FAIL state
-- false.
use mathlib.Core.Path.{◌≡◌, ap, refl, subst, sym}
use mathlib.Core.Logic.{inl, inr}
use mathlib.Core.Bool.{Bool}
use lib.Dec.{T}
use native.Mathlib.Omega.{arith}
use Prim.Native.Nat.{◌<◌, suc, ℕ}
use Rattle.meaning.specs.Combination.{State, Step, Truth}
use Rattle.meaning.specs.Formula.{Formula, atom, eg, eu, ex, neg, or, top}
use Rattle.meaning.specs.Marks.{Fail, Pass}
use Rattle.meaning.specs.Table.{Successor, Table, Total, assignments}
use Rattle.meaning.specs.View.{View}
use Rattle.meaning.proofs.Marks.Decided.{pass_decides}
use Rattle.meaning.proofs.Marks.Laws.{Sound}
use Rattle.meaning.proofs.Marks.Sets.{Derived, here, least_derived, there}
use Rattle.meaning.proofs.Meaning.Paths.{Reach, always_in, done, more, next_in, next_out, until_in}
use Rattle.meaning.proofs.Meaning.Steps.{moves, must_step, step_total}

module _ (n : ℕ) (S : ℕ → Table) (total : (i : ℕ) → i < n → Total (S i)) where
  module _ {A : Type 0} (val : A → (ℕ → ℕ) → Bool) (k : ℕ) (κ : View A) (ok : Sound n S val k κ) where
    abbrev l : k < n
    l = ok.here

    -- the component follows what is built up, and the others any steps
    pass_until : {P Q : ℕ → Type 0} {P' Q' : State n S → Type 0} → ((s : State n S) → P (s.at k) → P' s) → ((s : State n S) → Q (s.at k) → Q' s)
        → (x : ℕ) → Derived (S k) P Q x → (s : State n S) → s.at k ≡ x → Reach (Step n S) P' Q' s
    pass_until {P} {Q} p q x (here h) s e = done (q s (subst Q (sym e) h))
    pass_until {P} {Q} p q x (there h f g r) s e =
        let c =
        must_step n S total {Q = λ y. (a : ℕ) × (z : a < assignments (S k)) × (y ≡ f a z)} k l s
        (λ a z. (f a z, subst (λ x. Successor (S k) x a (f a z)) (sym e) (g a z), (a, z, refl))) in
        more (p s (subst P (sym e) h)) c.1 (pass_until p q (f c.2.0 c.2.1) (r c.2.0 c.2.1) c.0 c.2.2)

    mutual
      pub pass_sound : (φ : Formula A) (s : State n S) → Pass (S k) κ φ (s.at k) → Truth n S val φ s
      pass_sound top s h = tt
      pass_sound (atom a) s h = ok.passes a s h
      pass_sound (neg φ) s h = λ r. fail_sound φ s h r
      pass_sound (or φ ψ) s (inl h) = inl (pass_sound φ s h)
      pass_sound (or φ ψ) s (inr h) = inr (pass_sound ψ s h)
      pass_sound (ex φ) s h =
          let c = must_step n S total k l s h in
          next_in (step_total n S total) s c.0 tt c.1 (pass_sound φ c.0 c.2)
      pass_sound (eg φ) s (Z, z, h) =
          always_in
          (λ u. T (Z (u.at k)))
          (λ u m. (pass_sound φ u (h (u.at k) (u.ok k l) m).0, tt))
          (λ u m. must_step n S total k l u (h (u.at k) (u.ok k l) m).1) s z
      pass_sound (eu φ ψ) s h = until_in (step_total n S total) (λ s u w r. tt) s tt
          (pass_until (λ u p. pass_sound φ u p) (λ u p. pass_sound ψ u p) (s.at k)
          (least_derived (S k) (pass_decides (S k) κ (total k l) φ) (pass_decides (S k) κ (total k l) ψ) (s.at k) (s.ok k l) h) s refl)

      pub fail_sound : (φ : Formula A) (s : State n S) → Fail (S k) κ φ (s.at k) → Truth n S val φ s → ⊥
      fail_sound top s h r = h
      fail_sound (atom a) s h r = ok.fails a s h r
      fail_sound (neg φ) s h r = r (pass_sound φ s h)
      fail_sound (or φ ψ) s h (inl r) = fail_sound φ s h.0 r
      fail_sound (or φ ψ) s h (inr r) = fail_sound ψ s h.1 r
      fail_sound (ex φ) s h r =
          let c = next_out r in
          fail_sound φ c.0 (h (c.0.at k) (moves n S total k l s c.0 c.1)) c.2
      fail_sound (eg φ) s h r =
          let c = h (λ i. (r.path i).at k) (λ i. moves n S total k l (r.path i) (r.path (suc i)) (r.run i)) (ap (λ u. u.at k) r.start) in
          fail_sound φ (r.path c.0) c.1 (r.holds c.0).0
      fail_sound (eu φ ψ) s h r =
          elim (h (λ i. (r.path i).at k) (λ i. moves n S total k l (r.path i) (r.path (suc i)) (r.run i)) (ap (λ u. u.at k) r.start) r.steps) [
            | inl z ↦ fail_sound ψ (r.path r.steps) (z r.steps (omega arith)) r.reached
            | inr z ↦ fail_sound φ (r.path z.0) z.2 (r.before z.0 z.1)
          ]

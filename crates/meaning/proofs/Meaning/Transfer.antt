-- One induction for all: a relation of two systems that matches steps both ways carries truth both ways.
use mathlib.Core.Logic.{◌↔◌, ◌⊎◌, inl, inr, ⊎_map}
use Rattle.meaning.specs.Combination.{Step}
use Rattle.meaning.specs.Formula.{Formula, atom, eg, eu, ex, neg, or, top}
use Rattle.meaning.specs.Paths.{Holds}
use Rattle.meaning.proofs.File.Formulas.{Follows, Part, after_eg, after_eu, after_ex, of_eg, of_eu_l, of_eu_r, of_neg, of_or_l}
use Rattle.meaning.proofs.File.Formulas.{of_or_r}
use Rattle.meaning.proofs.Meaning.Paths.{Reach, always_now, carry_always, carry_reach, next_in, next_out, until_in, until_out}

-- every state has a step
abbrev pub Live : {X : Type 0} → (X → X → Type 0) → Type 0
Live {X} Step = (s : X) → Unit {0} → (u : X) × Step s u × Unit {0}

module _
    {A X Y : Type 0}
    (StepX : X → X → Type 0)
    (valX : A → X → Type 0)
    (GX : Formula A → X → Type 0)
    (StepY : Y → Y → Type 0)
    (valY : A → Y → Type 0)
    (GY : Formula A → Y → Type 0)
    (R : Formula A → X → Y → Type 0)
  where
    abbrev HX : Formula A → X → Type 0
    HX = Holds StepX valX GX

    abbrev HY : Formula A → Y → Type 0
    HY = Holds StepY valY GY

    -- Related states agree on atoms and guards, and match each step of a path that makes the formula true, unless that is settled.
    pub record Matches : Type 0 where
      pub value : (a : A) (s : X) (u : Y) → R (atom a) s u → valX a s → valY a u
      pub guard : (φ : Formula A) (s : X) (u : Y) → R (eg φ) s u → HX (eg φ) s → GY (eg φ) u
      pub part : (φ ψ : Formula A) → Part φ ψ → (s : X) (u : Y) → R ψ s u → R φ s u
      pub step : (φ χ : Formula A) → Follows φ χ → (s d : X) (u : Y) → R φ s u → HX φ s → StepX s d → HX χ d
          → HY φ u ⊎ ((v : Y) × StepY u v × R χ d v)

    -- the path quantifiers, one way
    module _ (liveX : Live StepX) (liveY : Live StepY) (m : Matches) where
      abbrev Carries : Formula A → Type 0
      Carries φ = (s : X) (u : Y) → R φ s u → HX φ s → HY φ u

      carry_ex : (φ : Formula A) → Carries φ → Carries (ex φ)
      carry_ex φ ih s u r h =
          let d = next_out h in
          elim (m.step (ex φ) φ after_ex s d.0 u r h d.1 d.2) [
            | inl k ↦ k
            | inr p ↦ next_in liveY u p.0 tt p.1 (ih d.0 p.0 p.2 d.2)
          ]

      carry_eg : (φ : Formula A) → Carries φ → Carries (eg φ)
      carry_eg φ ih =
          carry_always
          StepX
          StepY
          (R (eg φ))
          (λ s u r h. (ih s u (m.part φ (eg φ) of_eg s u r) (always_now h).0, m.guard φ s u r h))
          (λ s d u r h z k. m.step (eg φ) (eg φ) after_eg s d u r h z k)

      carry_eu : (φ ψ : Formula A) → Carries φ → Carries ψ → Carries (eu φ ψ)
      carry_eu φ ψ ih ih' s u r h =
          until_in liveY (λ s d w z. tt) u tt
          (carry_reach
          StepX
          StepY
          (R (eu φ ψ))
          (λ s u r h. ih s u (m.part φ (eu φ ψ) of_eu_l s u r) h)
          (λ s u r h. ih' s u (m.part ψ (eu φ ψ) of_eu_r s u r) h)
          (λ s d u r h z k. ⊎_map until_out (λ p. p) (m.step (eu φ ψ) (eu φ ψ) after_eu s d u r (until s h) z (until d k))) s u r
          (until_out h))
        where
          until : (s : X) → Reach StepX (HX φ) (HX ψ) s → HX (eu φ ψ) s
          until s h = until_in liveX (λ s d w z. tt) s tt h

module _
    {A X Y : Type 0}
    (StepX : X → X → Type 0)
    (valX : A → X → Type 0)
    (GX : Formula A → X → Type 0)
    (StepY : Y → Y → Type 0)
    (valY : A → Y → Type 0)
    (GY : Formula A → Y → Type 0)
    (R : Formula A → X → Y → Type 0)
    (liveX : Live StepX)
    (liveY : Live StepY)
    (to : Matches StepX valX GX StepY valY GY R)
    (fro : Matches StepY valY GY StepX valX GX (λ φ u s. R φ s u))
  where
    -- related states make the same formulas true
    pub transfer : (φ : Formula A) (s : X) (u : Y) → R φ s u → Holds StepX valX GX φ s ↔ Holds StepY valY GY φ u
    transfer top s u r = (λ h. tt, λ h. tt)
    transfer (atom a) s u r = (to.value a s u r, fro.value a u s r)
    transfer (neg φ) s u r =
        let t = transfer φ s u (to.part φ (neg φ) of_neg s u r) in
        (λ h k. h (t.1 k), λ h k. h (t.0 k))
    transfer (or φ ψ) s u r =
        let t = transfer φ s u (to.part φ (or φ ψ) of_or_l s u r) in
        let t' = transfer ψ s u (to.part ψ (or φ ψ) of_or_r s u r) in
        (⊎_map t.0 t'.0, ⊎_map t.1 t'.1)
    transfer (ex φ) s u r = (
      carry_ex StepX valX GX StepY valY GY R liveX liveY to φ (λ s u r. (transfer φ s u r).0) s u r,
      carry_ex StepY valY GY StepX valX GX
          (λ φ u s. R φ s u) liveY liveX fro φ (λ u s r. (transfer φ s u r).1) u s r,
    )
    transfer (eg φ) s u r = (
      carry_eg StepX valX GX StepY valY GY R liveX liveY to φ (λ s u r. (transfer φ s u r).0) s u r,
      carry_eg StepY valY GY StepX valX GX
          (λ φ u s. R φ s u) liveY liveX fro φ (λ u s r. (transfer φ s u r).1) u s r,
    )
    transfer (eu φ ψ) s u r = (
      carry_eu StepX valX GX StepY valY GY R liveX liveY to φ ψ (λ s u r. (transfer φ s u r).0)
          (λ s u r. (transfer ψ s u r).0) s u r,
      carry_eu StepY valY GY StepX valX GX (λ φ u s. R φ s u) liveY liveX fro φ ψ
          (λ u s r. (transfer φ s u r).1) (λ u s r. (transfer ψ s u r).1) u s r,
    )

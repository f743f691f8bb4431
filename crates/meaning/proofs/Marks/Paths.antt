-- FAIL of EG and EU: every path meets a set, or stays in one; otherwise some path shows it. Tests of both.
use mathlib.Core.Path.{subst, sym}
use mathlib.Core.Logic.{◌⊎◌, inl, inr}
use mathlib.Core.Bool.{Bool, not}
use lib.Dec.{T}
use native.Mathlib.Omega.{arith}
use Prim.Native.Nat.{◌<◌, suc, zero, ℕ}
use Rattle.meaning.specs.Marks.{Meets, Move, Stays, UpTo}
use Rattle.meaning.specs.Paths.{IsPath}
use Rattle.meaning.specs.Reference.Marks.{hold_b, reach_b}
use Rattle.meaning.specs.Reference.Tests.{grow, shrink}
use Rattle.meaning.specs.Table.{Table, Total}
use Rattle.meaning.proofs.Basic.Booleans.{dec-T}
use Rattle.meaning.proofs.Basic.Bounded.{first_or}
use Rattle.meaning.proofs.Basic.Decides.{Decides, decide, not_decides, stable}
use Rattle.meaning.proofs.Meaning.Paths.{Reach, done, more, until_in}
use Rattle.meaning.proofs.Meaning.TablePaths.{Keeps, keeps_decides, lost, move_total, on_path, reach_decides}

module _ (t : Table) where
  abbrev N : ℕ
  N = t.states

  -- some path avoids F
  abbrev pub Avoids : (ℕ → Type 0) → ℕ → Type 0
  Avoids F = Keeps t (λ y. F y → ⊥)

  pub avoids_not : {F : ℕ → Type 0} (x : ℕ) → Avoids F x → Meets t F x → ⊥
  avoids_not x a h = let c = h a.path a.run a.start in (a.holds c.0).1 c.1

  module _ {F : ℕ → Type 0} {f : ℕ → Bool} (d : Decides N f F) where
    pub meets_or : (x : ℕ) → x < N → Meets t F x ⊎ Avoids F x
    meets_or x l =
        elim (dec-T (Z x)) [
          | inl h ↦ inr ((keeps_decides t (not_decides d)).sound x l h)
          | inr h ↦
              inl (λ π m e.
              let k = subst (λ y. y < N) (sym e) l in
              let c = lost t (not_decides d) N π m k (subst (λ y. T (not (Z y))) (sym e) h) in
              (c.0, stable d (π c.0) (on_path t π m k c.0) c.1))
        ]
      where
        Z : ℕ → Bool
        Z = shrink (hold_b t (λ y. not (f y))) N

    pub meets_decides : Decides N (λ x. not (shrink (hold_b t (λ y. not (f y))) N x)) (Meets t F)
    meets_decides = record { sound = sound'; whole = λ x l h. e.whole x l (λ a. avoids_not x a h) }
      where
        e : Decides N (λ x. not (shrink (hold_b t (λ y. not (f y))) N x)) (λ x. Avoids F x → ⊥)
        e = not_decides (keeps_decides t (not_decides d))

        sound' : (x : ℕ) → x < N → T (not (shrink (hold_b t (λ y. not (f y))) N x)) → Meets t F x
        sound' x l h = elim (meets_or x l) [ inl z ↦ z | inr z ↦ absurd (e.sound x l h z) ]

  -- some path leaves G with F avoided before
  abbrev pub Leaves : (ℕ → Type 0) → (ℕ → Type 0) → ℕ → Type 0
  Leaves F G = Reach (Move t) (λ y. F y → ⊥) (λ y. G y → ⊥)

  module _ (total : Total t) {F G : ℕ → Type 0} where
    pub leaves_not : (x : ℕ) → x < N → Leaves F G x → Stays t F G x → ⊥
    leaves_not x l r h =
        let u = until_in {W = λ y. y < N} (move_total t total) (λ y z k m. m.2.0) x l r in
        elim (h u.path u.run u.start u.steps)
        [ inl z ↦ u.reached (z u.steps (omega arith)) | inr z ↦ u.before z.0 z.1 z.2 ]

    module _ {f g : ℕ → Bool} (d : Decides N f F) (e : Decides N g G) where
      -- a state from which no path leaves: as far as its path has avoided F it is in G
      inside : (i : ℕ) (π : ℕ → ℕ) → IsPath (Move t) π → π 0 < N → (Leaves F G (π 0) → ⊥) → ((j : ℕ) → j < i → F (π j) → ⊥) → G (π i)
      inside zero π m l h a = stable e (π 0) l (λ z. h (done z))
      inside (suc i) π m l h a =
          inside i (λ i. π (suc i)) (λ i. m (suc i)) (m 0).2.0 (λ z. h (more (a 0 (omega arith)) (m 0) z)) (λ j k. a (suc j) (omega arith))

      stayed : (i : ℕ) (π : ℕ → ℕ) → IsPath (Move t) π → π 0 < N → (Leaves F G (π 0) → ⊥) → UpTo G π i
          ⊎ ((j : ℕ) × (j < i) × F (π j) × UpTo G π j)
      stayed i π m l h =
          elim (first_or i (λ j k. decide d (π j) (on_path t π m l j))) [
            | inl a ↦ inl (λ k z. inside k π m l h (λ j y. a j (omega arith)))
            | inr (j, k, b, a) ↦ inr (j, k, b, λ q z. inside q π m l h (λ r y. a r (omega arith)))
          ]

      pub stays_or : (x : ℕ) → x < N → Stays t F G x ⊎ Leaves F G x
      stays_or x l =
          elim (decide (reach_decides t (not_decides d) (not_decides e)) x l) [
            | inl h ↦ inr h
            | inr h ↦ inl (λ π m z i. stayed i π m (subst (λ y. y < N) (sym z) l) (subst (λ y. Leaves F G y → ⊥) (sym z) h))
          ]

      pub stays_decides : Decides N (λ x. not (grow (reach_b t (λ y. not (f y)) (λ y. not (g y))) N x)) (Stays t F G)
      stays_decides = record { sound = sound'; whole = λ x l h. c.whole x l (λ r. leaves_not x l r h) }
        where
          c : Decides N (λ x. not (grow (reach_b t (λ y. not (f y)) (λ y. not (g y))) N x)) (λ x. Leaves F G x → ⊥)
          c = not_decides (reach_decides t (not_decides d) (not_decides e))

          sound' : (x : ℕ) → x < N → T (not (grow (reach_b t (λ y. not (f y)) (λ y. not (g y))) N x)) → Stays t F G x
          sound' x l h = elim (stays_or x l) [ inl z ↦ z | inr z ↦ absurd (c.sound x l h z) ]

-- Related states have the same marks: by induction over the formula, PASS and FAIL together.
use mathlib.Core.Logic.{◌⊎◌, inl, inr}
use mathlib.Core.Bool.{Bool}
use lib.Dec.{T}
use native.Mathlib.Omega.{arith}
use Prim.Native.Nat.{◌<◌, ℕ}
use Rattle.meaning.specs.Combination.{State}
use Rattle.meaning.specs.Formula.{Formula, atom, eg, eu, ex, neg, or, top}
use Rattle.meaning.specs.Marks.{Fail, Largest, Least, Meets, Move, Must, Pass, Stays}
use Rattle.meaning.specs.Relation.{KeepsRule, Rel, Rule, alike, failed, passed}
use Rattle.meaning.specs.Table.{Successor, Table, Total, assignments}
use Rattle.meaning.specs.View.{View}
use Rattle.meaning.proofs.Basic.Decides.{Decides, decide}
use Rattle.meaning.proofs.Marks.Decided.{fail_decides, pass_decides}
use Rattle.meaning.proofs.Marks.Laws.{Lawful, Sound}
use Rattle.meaning.proofs.Marks.Paths.{Avoids, Leaves, avoids_not, leaves_not, meets_or, stays_or}
use Rattle.meaning.proofs.Marks.Sets.{Derived, derived_least, here, largest_in, largest_out, least_derived, there}
use Rattle.meaning.proofs.Marks.Sound.{fail_sound, pass_sound}
use Rattle.meaning.proofs.Meaning.Paths.{always_in, always_next, always_now, done, more}
use Rattle.meaning.proofs.Meaning.TableSteps.{must_map}

module _ {A : Type 0} (t : Table) (κ : View A) (law : Lawful t κ) where
  abbrev total : Total t
  total = law.total

  -- no state is both PASS and FAIL: in the component alone, where an atom's value is its PASS
  pub exclusive : (φ : Formula A) (x : ℕ) → x < t.states → Pass t κ φ x → Fail t κ φ x → ⊥
  exclusive φ x l p f = fail_sound 1 (λ i. t) (λ i k. total) val 0 κ alone φ s f (pass_sound 1 (λ i. t) (λ i k. total) val 0 κ alone φ s p)
    where
      s : State 1 (λ i. t)
      s = record { at = λ i. x; ok = λ i k. l }

      val : A → (ℕ → ℕ) → Bool
      val a s = κ.pass a (s 0)

      alone : Sound 1 (λ i. t) val 0 κ
      alone = record { here = omega arith; passes = λ a s h. h; fails = λ a s h k. law.clash a (s.at 0) (s.ok 0 (omega arith)) k h }

  -- pairs of E keep P
  abbrev Kept : (ℕ → ℕ → Type 0) → (ℕ → Type 0) → Type 0
  Kept E P = (u v : ℕ) → u < t.states → v < t.states → E u v → P u → P v

  abbrev RuleBy : (ℕ → Type 0) → (ℕ → Type 0) → (ℕ → ℕ → Bool) → ℕ → ℕ → Type 0
  RuleBy P F R = Rule t κ.compared P F F (λ p q. T (R p q))

  -- the step at EG, over a relation that keeps the rule
  module _
      {E : ℕ → ℕ → Type 0}
      {P F : ℕ → Type 0}
      {pb fb : ℕ → Bool}
      (p : Decides t.states pb P)
      (f : Decides t.states fb F)
      (passes : Kept E P)
      (fails : Kept E F)
      (apart : (x : ℕ) → x < t.states → Largest t P x → Meets t F x → ⊥)
      (R : ℕ → ℕ → Bool)
      (keeps : KeepsRule t κ.compared E (Largest t P) (Meets t F) (λ u v. T (R u v)))
    where
      abbrev Near : ℕ → Type 0
      Near v = Largest t P v ⊎ ((u : ℕ) × (u < t.states) × T (R u v) × Largest t P u)

      near_from : (v : ℕ) → v < t.states → Largest t P v → P v × Must t Near v
      near_from v k h = let c = largest_out t v k h in (c.0, must_map t (λ z _ q. inl q) v c.1)

      near_step : (v : ℕ) → v < t.states → Near v → P v × Must t Near v
      near_step v k (inl h) = near_from v k h
      near_step v k (inr (u, l, r, h)) = go (keeps u v l k r) (largest_out t u l h)
        where
          go : E u v × RuleBy (Largest t P) (Meets t F) R u v → P u × Must t (Largest t P) u → P v
              × Must t Near v
          go (e, passed b c) d = near_from v k c
          go (e, failed b c) d = absurd (apart u l h b)
          go (e, alike c) d = (
            passes u v l k e d.0,
            λ a z.
                let m = d.1 a z in
                let w = c.forth a z m.0 m.1 (apart m.0 m.1.0 m.2) in
                (w.0, w.1, inr (m.0, m.1.0, w.2, m.2)),
          )

      eg_pass_lem : (x y : ℕ) → x < t.states → y < t.states → T (R x y) → Largest t P x → Largest t P y
      eg_pass_lem x y l k r h = largest_in t p Near near_step y k (inr (x, l, r, h))

      abbrev Ahead : ℕ → Type 0
      Ahead u = (u < t.states) × (Avoids t F u ⊎ ((v : ℕ) × (v < t.states) × T (R u v) × Avoids t F v))

      ahead_from : (u : ℕ) → Avoids t F u → (v : ℕ) × Move t u v × Ahead v
      ahead_from u h = let c = always_next h in (c.0, c.1, (c.1.2.0, inl c.2))

      ahead_keep : (u : ℕ) → Ahead u → (u < t.states) × (F u → ⊥)
      ahead_keep u (l, inl a) = always_now a
      ahead_keep u (l, inr (v, k, r, a)) = (l, λ z. (always_now a).1 (fails u v l k (keeps u v l k r).0 z))

      ahead_step : (u : ℕ) → Ahead u → (v : ℕ) × Move t u v × Ahead v
      ahead_step u (l, inl a) = ahead_from u a
      ahead_step u (l, inr (v, k, r, a)) = go (keeps u v l k r).1
        where
          go : RuleBy (Largest t P) (Meets t F) R u v → (v : ℕ) × Move t u v × Ahead v
          go (passed b c) = elim (meets_or t f u l) [ inl z ↦ absurd (apart u l b z) | inr z ↦ ahead_from u z ]
          go (failed b c) = absurd (avoids_not t v a c)
          go (alike c) =
              let n = always_next a in
              let w = c.back n.1.0 n.1.1 n.0 n.1.2 (avoids_not t n.0 n.2) in
              (w.0, (n.1.0, n.1.1, w.1), (w.1.0, inr (n.0, n.1.2.0, w.2, n.2)))

      eg_fail_lem : (x y : ℕ) → x < t.states → y < t.states → T (R x y) → Meets t F x → Meets t F y
      eg_fail_lem x y l k r h =
          elim (meets_or t f y k) [
            | inl z ↦ z
            | inr a ↦ absurd (avoids_not t x (always_in Ahead ahead_keep ahead_step x (l, inr (y, k, r, a))) h)
          ]

  -- the step at EU
  module _
      {E : ℕ → ℕ → Type 0}
      {P Q F G : ℕ → Type 0}
      {pb qb fb gb : ℕ → Bool}
      (p : Decides t.states pb P)
      (q : Decides t.states qb Q)
      (f : Decides t.states fb F)
      (g : Decides t.states gb G)
      (passes : Kept E P)
      (passes₂ : Kept E Q)
      (fails : Kept E F)
      (fails₂ : Kept E G)
      (apart : (x : ℕ) → x < t.states → Least t P Q x → Stays t F G x → ⊥)
      (R : ℕ → ℕ → Bool)
      (keeps : KeepsRule t κ.compared E (Least t P Q) (Stays t F G) (λ u v. T (R u v)))
    where
      -- what is built up at a state is built up at a related one
      derived_same : (x y : ℕ) → x < t.states → y < t.states → T (R x y) → Derived t P Q x → Derived t P Q y
      derived_same x y l k r (here h) = here (passes₂ x y l k (keeps x y l k r).0 h)
      derived_same x y l k r (there h f g d) = go (keeps x y l k r) (λ a z v m e. derived_same (f a z) v (g a z).0 m e (d a z))
        where
          apart' : (x : ℕ) → x < t.states → Derived t P Q x → Stays t F G x → ⊥
          apart' x l d = apart x l (derived_least t p q x l d)

          go : E x y × RuleBy (Least t P Q) (Stays t F G) R x y
              → ((a : ℕ) (z : a < assignments t) (v : ℕ) → v < t.states → T (R (f a z) v) → Derived t P Q v)
              → Derived t P Q y
          go (e, passed b c) ih = least_derived t p q y k c
          go (e, failed b c) ih = absurd (apart' x l (there h f g d) b)
          go (e, alike c) ih =
              let w : (a : ℕ) (z : a < assignments t) → (v : ℕ) × Successor t y a v × T (R (f a z) v) =
              λ a z. c.forth a z (f a z) (g a z) (apart' (f a z) (g a z).0 (d a z))
              in
              there (passes x y l k e h) (λ a z. (w a z).0) (λ a z. (w a z).1) (λ a z. ih a z (w a z).0 (w a z).1.0 (w a z).2)

      eu_pass_lem : (x y : ℕ) → x < t.states → y < t.states → T (R x y) → Least t P Q x → Least t P Q y
      eu_pass_lem x y l k r h = derived_least t p q y k (derived_same x y l k r (least_derived t p q x l h))

      leaves_same : (x y : ℕ) → x < t.states → y < t.states → T (R x y) → Leaves t F G y → Leaves t F G x
      leaves_same x y l k r (done h) = done (λ z. h (fails₂ x y l k (keeps x y l k r).0 z))
      leaves_same x y l k r (more {u = v} h m d) = go (keeps x y l k r) (λ u z e. leaves_same u v z m.2.0 e d)
        where
          go : E x y × RuleBy (Least t P Q) (Stays t F G) R x y
              → ((u : ℕ) → u < t.states → T (R u v) → Leaves t F G u) → Leaves t F G x
          go (e, passed b c) ih = elim (stays_or t total f g x l) [ inl z ↦ absurd (apart x l b z) | inr z ↦ z ]
          go (e, failed b c) ih = absurd (leaves_not t total y k (more h m d) c)
          go (e, alike c) ih =
              let w = c.back m.0 m.1 v m.2 (leaves_not t total v m.2.0 d) in
              more (λ z. h (fails x y l k e z)) (m.0, m.1, w.1) (ih w.0 w.1.0 w.2)

      eu_fail_lem : (x y : ℕ) → x < t.states → y < t.states → T (R x y) → Stays t F G x → Stays t F G y
      eu_fail_lem x y l k r h =
          elim (stays_or t total f g y k) [ inl z ↦ z | inr a ↦ absurd (leaves_not t total x l (leaves_same x y l k r a) h) ]

  mutual
    pub pass_same : (φ : Formula A) (x y : ℕ) → x < t.states → y < t.states → Rel t κ φ x y → Pass t κ φ x → Pass t κ φ y
    pass_same top x y l k r h = tt
    pass_same (atom a) x y l k r h = law.passes a x y l k r h
    pass_same (neg φ) x y l k r h = fail_same φ x y l k r h
    pass_same (or φ ψ) x y l k r (inl h) = inl (pass_same φ x y l k r.0 h)
    pass_same (or φ ψ) x y l k r (inr h) = inr (pass_same ψ x y l k r.1 h)
    pass_same (ex φ) x y l k (r, passed b c) h = c
    pass_same (ex φ) x y l k (r, failed b c) h = absurd (exclusive (ex φ) x l h b)
    pass_same (ex φ) x y l k (r, alike c) h =
        λ a z.
        let u = h a z in
        let v = c.forth a z u.0 u.1 (exclusive φ u.0 u.1.0 u.2) in
        (v.0, v.1, pass_same φ u.0 v.0 u.1.0 v.1.0 v.2 u.2)
    pass_same (eg φ) x y l k r h =
        eg_pass_lem (pass_decides t κ total φ) (fail_decides t κ total φ) (λ u v l k e z. pass_same φ u v l k e z)
        (λ u v l k e z. fail_same φ u v l k e z) (exclusive (eg φ)) r.rel r.keeps x y l k r.here h
    pass_same (eu φ ψ) x y l k r h =
        eu_pass_lem
        (pass_decides t κ total φ)
        (pass_decides t κ total ψ)
        (fail_decides t κ total φ)
        (fail_decides t κ total ψ)
        (λ u v l k e z. pass_same φ u v l k e.0 z)
        (λ u v l k e z. pass_same ψ u v l k e.1 z)
        (λ u v l k e z. fail_same φ u v l k e.0 z)
        (λ u v l k e z. fail_same ψ u v l k e.1 z)
        (exclusive (eu φ ψ))
        r.rel r.keeps x y l k r.here h

    pub fail_same : (φ : Formula A) (x y : ℕ) → x < t.states → y < t.states → Rel t κ φ x y → Fail t κ φ x → Fail t κ φ y
    fail_same top x y l k r h = h
    fail_same (atom a) x y l k r h = law.fails a x y l k r h
    fail_same (neg φ) x y l k r h = pass_same φ x y l k r h
    fail_same (or φ ψ) x y l k r h = (fail_same φ x y l k r.0 h.0, fail_same ψ x y l k r.1 h.1)
    fail_same (ex φ) x y l k (r, passed b c) h = absurd (exclusive (ex φ) x l b h)
    fail_same (ex φ) x y l k (r, failed b c) h = c
    fail_same (ex φ) x y l k (r, alike c) h =
        λ v m.
        elim (decide (fail_decides t κ total φ) v m.2.0) [
          | inl z ↦ z
          | inr z ↦
              let u = c.back m.0 m.1 v m.2 z in
              fail_same φ u.0 v u.1.0 m.2.0 u.2 (h u.0 (m.0, m.1, u.1))
        ]
    fail_same (eg φ) x y l k r h =
        eg_fail_lem (pass_decides t κ total φ) (fail_decides t κ total φ) (λ u v l k e z. pass_same φ u v l k e z)
        (λ u v l k e z. fail_same φ u v l k e z) (exclusive (eg φ)) r.rel r.keeps x y l k r.here h
    fail_same (eu φ ψ) x y l k r h =
        eu_fail_lem
        (pass_decides t κ total φ)
        (pass_decides t κ total ψ)
        (fail_decides t κ total φ)
        (fail_decides t κ total ψ)
        (λ u v l k e z. pass_same φ u v l k e.0 z)
        (λ u v l k e z. pass_same ψ u v l k e.1 z)
        (λ u v l k e z. fail_same φ u v l k e.0 z)
        (λ u v l k e z. fail_same ψ u v l k e.1 z)
        (exclusive (eu φ ψ))
        r.rel r.keeps x y l k r.here h

-- The largest set of EG and the least set of EU: tested, with their property, and largest and least among all sets that have it.
use mathlib.Core.Logic.{◌⊎◌, inl, inr}
use mathlib.Core.Bool.{Bool}
use lib.Dec.{T}
use Prim.Native.Nat.{◌<◌, suc, zero, ℕ}
use Rattle.meaning.specs.Marks.{EgSet, EuSet, Inside, Largest, Least}
use Rattle.meaning.specs.Reference.Marks.{inner_b, must_b, outer_b}
use Rattle.meaning.specs.Reference.Tests.{grow, shrink}
use Rattle.meaning.specs.Table.{Successor, Table, assignments}
use Rattle.meaning.proofs.Basic.Booleans.{and_in, conj, or_l, or_out, or_r}
use Rattle.meaning.proofs.Basic.Decides.{Decides}
use Rattle.meaning.proofs.Basic.Rounds.{below, greatest_out, least_in}
use Rattle.meaning.proofs.Meaning.TableSteps.{Mono, and_mono, must_in, must_map, must_mono, must_out, or_mono}

module _ (t : Table) where
  abbrev N : ℕ
  N = t.states

  module _ {P : ℕ → Type 0} {p : ℕ → Bool} (d : Decides N p P) where
    inner_mono : Mono t (inner_b t p)
    inner_mono = and_mono t p (must_b t) (must_mono t)

    -- any set with the property lies inside every round
    largest_below : (X : ℕ → Type 0) → EgSet t P X → (k x : ℕ) → x < N → X x → T (shrink (inner_b t p) k x)
    largest_below X h zero x l r = tt
    largest_below X h (suc k) x l r =
        let c = h x l r in
        and_in (p x) (must_b t (shrink (inner_b t p) k) x) (d.whole x l c.0)
        (must_in t (shrink (inner_b t p) k) x (must_map t (largest_below X h k) x c.1))

    pub largest_decides : Decides N (shrink (inner_b t p) N) (Largest t P)
    largest_decides = record { sound = λ x l h. (G, h, inside); whole = λ x l h. largest_below (λ y. T (h.0 y)) h.2 N x l h.1 }
      where
        G : ℕ → Bool
        G = shrink (inner_b t p) N

        inside : EgSet t P (λ y. T (G y))
        inside y k g =
            let r = greatest_out (below N) (inner_b t p) inner_mono y k g in
            (d.sound y k (search conj), must_out t G y (search conj))

    -- every set with the property lies inside the largest
    pub largest_in : (X : ℕ → Type 0) → EgSet t P X → Inside t X (Largest t P)
    largest_in X h x l r = largest_decides.sound x l (largest_below X h N x l r)

  -- the largest set has the property
  pub largest_out : {P : ℕ → Type 0} → EgSet t P (Largest t P)
  largest_out y l (Z, z, h) = let c = h y l z in (c.0, λ a b. let d = c.1 a b in (d.0, d.1, (Z, d.2, h)))

  -- The least set, built up: in Q, or in P and on every assignment with a successor built before.
  pub data Derived (P Q : ℕ → Type 0) : ℕ → Type 0 where
    here : {x : ℕ} → Q x → Derived P Q x
    there : {x : ℕ} → P x → (f : (a : ℕ) → a < assignments t → ℕ) → ((a : ℕ) (h : a < assignments t) → Successor t x a (f a h))
        → ((a : ℕ) (h : a < assignments t) → Derived P Q (f a h)) → Derived P Q x

  -- what is built up is in every set with the property
  pub derived_in : {P Q : ℕ → Type 0} (X : ℕ → Type 0) → EuSet t P Q X → Inside t (Derived P Q) X
  derived_in X c x l (here h) = c.0 x l h
  derived_in X c x l (there h f g r) = c.1 x l (h, λ a z. (f a z, g a z, derived_in X c (f a z) (g a z).0 (r a z)))

  -- the least set has the property
  pub least_out : {P Q : ℕ → Type 0} → EuSet t P Q (Least t P Q)
  least_out = (λ x l h Z c. c.0 x l h, λ x l h Z c. c.1 x l (h.0, must_map t (λ y k r. r Z c) x h.1))

  module _ {P Q : ℕ → Type 0} {p q : ℕ → Bool} (d : Decides N p P) (e : Decides N q Q) where
    outer_mono : Mono t (outer_b t p q)
    outer_mono = or_mono t q (inner_b t p) (inner_mono d)

    abbrev L : ℕ → Bool
    L = grow (outer_b t p q) N

    closed : EuSet t P Q (λ x. T (L x))
    closed = (
      λ x l h. least_in (below N) (outer_b t p q) outer_mono x l (or_l (q x) (inner_b t p L x) (e.whole x l h)),
      λ x l h. least_in (below N) (outer_b t p q) outer_mono x l
          (or_r (q x) (inner_b t p L x) (and_in (p x) (must_b t L x) (d.whole x l h.0) (must_in t L x h.1))),
    )

    grown : (k x : ℕ) → x < N → T (grow (outer_b t p q) k x) → Derived P Q x
    grown zero x l h = absurd h
    grown (suc k) x l h = step (grown k) (or_out (q x) (inner_b t p G x) h)
      where
        G : ℕ → Bool
        G = grow (outer_b t p q) k

        step : ((y : ℕ) → y < N → T (G y) → Derived P Q y) → T (q x) ⊎ T (inner_b t p G x) → Derived P Q x
        step ih (inl a) = here (e.sound x l a)
        step ih (inr b) =
            let m = must_map t ih x (must_out t G x (search conj)) in
            there (d.sound x l (search conj)) (λ a z. (m a z).0) (λ a z. (m a z).1) (λ a z. (m a z).2)

    pub least_derived : (x : ℕ) → x < N → Least t P Q x → Derived P Q x
    least_derived x l h = grown N x l (h L closed)

    pub derived_least : (x : ℕ) → x < N → Derived P Q x → Least t P Q x
    derived_least x l h Z c = derived_in (λ y. T (Z y)) c x l h

    pub least_decides : Decides N L (Least t P Q)
    least_decides = record { sound = λ x l h. derived_least x l (grown N x l h); whole = λ x l h. h L closed }

    -- every set with the property holds the least
    pub least_in_all : (X : ℕ → Type 0) → EuSet t P Q X → Inside t (Least t P Q) X
    least_in_all X c x l h = derived_in X c x l (least_derived x l h)

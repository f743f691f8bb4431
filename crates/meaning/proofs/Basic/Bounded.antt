-- Tests and choices of the numbers below a bound.
use mathlib.Core.Path.{◌∙◌, ◌≡◌, ap, ap₂, refl, subst, sym}
use mathlib.Core.Logic.{◌↔◌, ◌⊎◌, inl, inr}
use mathlib.Core.Bool.{Bool, ◌&&◌, ◌||◌, cond, false, true}
use lib.Dec.{T}
use native.Mathlib.Decide.{dec_lt, ℕ_discrete}
use native.Mathlib.Omega.{arith}
use Prim.Native.Nat.{◌<◌, ◌≤◌, suc, zero, ℕ}
use Rattle.meaning.specs.Reference.Tests.{all_below, lowest}
use Rattle.meaning.specs.Tests.{any_below}
use Rattle.meaning.proofs.Basic.Booleans.{and_in, and_l, and_r, or_l, or_out, or_r}

-- tests that agree on the numbers below n
abbrev pub Agree : ℕ → (ℕ → Bool) → (ℕ → Bool) → Type 0
Agree n f g = (x : ℕ) → x < n → f x ≡ g x

-- i below n + 1 is n or below n
pub last_or : (i n : ℕ) → i < suc n → (i ≡ n) ⊎ (i < n)
last_or i n h = elim (ℕ_discrete i n) [ yes e ↦ inl e | no ne ↦ inr (omega arith) ]

pub any_in : (n : ℕ) (f : ℕ → Bool) (i : ℕ) → i < n → T (f i) → T (any_below n f)
any_in zero f i l h = absurd (omega arith)
any_in (suc n) f i l h =
    elim (last_or i n l) [
      | inl e ↦ or_l (f n) (any_below n f) (subst (λ j. T (f j)) e h)
      | inr k ↦ or_r (f n) (any_below n f) (any_in n f i k h)
    ]

pub any_out : (n : ℕ) (f : ℕ → Bool) → T (any_below n f) → (i : ℕ) × (i < n) × T (f i)
any_out zero f h = absurd h
any_out (suc n) f h =
    elim (or_out (f n) (any_below n f) h) [ inl p ↦ (n, omega arith, p) | inr q ↦ let r = any_out n f q in (r.0, omega (arith, r.1), r.2) ]

pub any_iff : (n : ℕ) (f : ℕ → Bool) (P : ℕ → Type 0) → ((i : ℕ) → i < n → T (f i) ↔ P i) → T (any_below n f) ↔ ((i : ℕ) × (i < n) × P i)
any_iff n f P d = (
  λ h. let (i, l, k) = any_out n f h in (i, l, (d i l).0 k),
  λ h. any_in n f h.0 h.1 ((d h.0 h.1).1 h.2),
)

pub any_same : (n : ℕ) (f g : ℕ → Bool) → ((i : ℕ) → i < n → f i ≡ g i) → any_below n f ≡ any_below n g
any_same zero f g h = refl
any_same (suc n) f g h = ap₂ (λ a b. a || b) (h n (omega arith)) (any_same n f g (λ i l. h i (omega arith)))

-- one count and another, and tests that agree below it
pub any_count : (a b : ℕ) (f g : ℕ → Bool) → a ≡ b → ((j : ℕ) → j < a → f j ≡ g j) → any_below a f ≡ any_below b g
any_count a b f g e h = any_same a f g h ∙ ap (λ k. any_below k g) e

pub all_in : (n : ℕ) (f : ℕ → Bool) → ((i : ℕ) → i < n → T (f i)) → T (all_below n f)
all_in zero f h = tt
all_in (suc n) f h = and_in (f n) (all_below n f) (h n (omega arith)) (all_in n f (λ i l. h i (omega arith)))

pub all_out : (n : ℕ) (f : ℕ → Bool) → T (all_below n f) → (i : ℕ) → i < n → T (f i)
all_out zero f h i l = absurd (omega arith)
all_out (suc n) f h i l =
    elim (last_or i n l) [
      | inl e ↦ subst (λ j. T (f j)) (sym e) (and_l (f n) (all_below n f) h)
      | inr k ↦ all_out n f (and_r (f n) (all_below n f) h) i k
    ]

pub all_same : (n : ℕ) (f g : ℕ → Bool) → ((i : ℕ) → i < n → f i ≡ g i) → all_below n f ≡ all_below n g
all_same zero f g h = refl
all_same (suc n) f g h = ap₂ (λ a b. a && b) (h n (omega arith)) (all_same n f g (λ i l. h i (omega arith)))

-- a choice below n is a function
module _ {P : ℕ → ℕ → Type 0} (n : ℕ) (h : (i : ℕ) → i < n → (y : ℕ) × P i y) where
  abbrev chosen : (i : ℕ) → Dec (i < n) → ℕ
  chosen i (yes l) = (h i l).0
  chosen i (no z) = 0

  chosen_ok : (i : ℕ) (d : Dec (i < n)) → i < n → P i (chosen i d)
  chosen_ok i (yes l) k = (h i l).1
  chosen_ok i (no z) k = absurd (z k)

  pub choose : (f : ℕ → ℕ) × ((i : ℕ) → i < n → P i (f i))
  choose = (λ i. chosen i (dec_lt i n), λ i k. chosen_ok i (dec_lt i n) k)

-- below n everything is A, or something is B
pub all_or : {A B : ℕ → Type 0} (n : ℕ) → ((i : ℕ) → i < n → A i ⊎ B i) → ((i : ℕ) → i < n → A i) ⊎ ((i : ℕ) × (i < n) × B i)
all_or zero h = inl (λ i l. absurd (omega arith))
all_or {A} {B} (suc n) h = go (h n (omega arith)) (all_or n (λ i l. h i (omega arith)))
  where
    go : A n ⊎ B n → ((i : ℕ) → i < n → A i) ⊎ ((i : ℕ) × (i < n) × B i) → ((i : ℕ) → i < suc n → A i) ⊎ ((i : ℕ) × (i < suc n) × B i)
    go (inr b) r = inr (n, omega arith, b)
    go (inl a) (inr r) = inr (r.0, omega (arith, r.1), r.2)
    go (inl a) (inl f) = inl (λ i l. elim (last_or i n l) [ inl e ↦ subst A (sym e) a | inr k ↦ f i k ])

-- below n nothing is P, or there is a first that is
pub first_or : {P : ℕ → Type 0} (n : ℕ) → ((i : ℕ) → i < n → P i ⊎ (P i → ⊥))
    → ((i : ℕ) → i < n → P i → ⊥) ⊎ ((i : ℕ) × (i < n) × P i × ((j : ℕ) → j < i → P j → ⊥))
first_or zero h = inl (λ i l. absurd (omega arith))
first_or {P} (suc n) h = go (first_or n (λ i l. h i (omega arith))) (h n (omega arith))
  where
    go : ((i : ℕ) → i < n → P i → ⊥) ⊎ ((i : ℕ) × (i < n) × P i × ((j : ℕ) → j < i → P j → ⊥)) → P n ⊎ (P n → ⊥)
        → ((i : ℕ) → i < suc n → P i → ⊥) ⊎ ((i : ℕ) × (i < suc n) × P i × ((j : ℕ) → j < i → P j → ⊥))
    go (inr (i, l, p, f)) d = inr (i, omega arith, p, f)
    go (inl f) (inl p) = inr (n, omega arith, p, f)
    go (inl f) (inr p) = inl (λ i l. elim (last_or i n l) [ inl e ↦ subst (λ i. P i → ⊥) (sym e) p | inr k ↦ f i k ])

-- the lowest number that passes a test
pub lowest_hit : (n : ℕ) (f : ℕ → Bool) → T (any_below n f) → T (f (lowest n f)) × (lowest n f < n)
lowest_hit zero f h = absurd h
lowest_hit (suc n) f h = go (any_below n f) refl (lowest_hit n f)
  where
    go : (b : Bool) → b ≡ any_below n f → (T (any_below n f) → T (f (lowest n f)) × (lowest n f < n))
        → T (f (cond b (lowest n f) n)) × (cond b (lowest n f) n < suc n)
    go true e ih = let c = ih (subst T e tt) in (c.0, omega (arith, c.1))
    go false e ih =
        let c = any_out (suc n) f h in (
          elim (last_or c.0 n c.1) [
            | inl k ↦ subst (λ i. T (f i)) k c.2
            | inr k ↦ absurd (subst T (sym e) (any_in n f c.0 k c.2))
          ],
          omega arith,
        )

pub lowest_le : (n : ℕ) (f : ℕ → Bool) (y : ℕ) → y < n → T (f y) → lowest n f ≤ y
lowest_le zero f y l h = absurd (omega arith)
lowest_le (suc n) f y l h = go (any_below n f) refl (lowest_le n f y) (last_or y n l)
  where
    go : (b : Bool) → b ≡ any_below n f → (y < n → T (f y) → lowest n f ≤ y) → (y ≡ n) ⊎ (y < n) → cond b (lowest n f) n ≤ y
    go true e ih (inl k) = let c = (lowest_hit n f (subst T e tt)).1 in omega arith
    go true e ih (inr k) = ih k h
    go false e ih (inl k) = omega arith
    go false e ih (inr k) = absurd (subst T (sym e) (any_in n f y k h))

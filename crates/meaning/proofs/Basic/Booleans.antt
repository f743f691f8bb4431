-- What Boolean tests say.
use mathlib.Core.Path.{◌≡◌, refl, subst}
use mathlib.Core.Logic.{◌⊎◌, inl, inr}
use mathlib.Core.Bool.{Bool, beq, ◌&&◌, ◌||◌, false, not, true}
use lib.Dec.{T}

pub or_l : (a b : Bool) → T a → T (a || b)
or_l true b h = tt
or_l false b h = absurd h

pub or_r : (a b : Bool) → T b → T (a || b)
or_r true b h = tt
or_r false b h = h

pub or_out : (a b : Bool) → T (a || b) → T a ⊎ T b
or_out true b h = inl tt
or_out false b h = inr h

pub and_in : (a b : Bool) → T a → T b → T (a && b)
and_in true b h k = k
and_in false b h k = h

pub and_l : (a b : Bool) → T (a && b) → T a
and_l true b h = tt
and_l false b h = h

pub and_r : (a b : Bool) → T (a && b) → T b
and_r true b h = h
and_r false b h = absurd h

-- a conjunct matters only where the other one is true
pub and_same : (a b c : Bool) → (T a → b ≡ c) → (a && b) ≡ (a && c)
and_same true b c h = h tt
and_same false b c h = refl

-- what follows of conjunctions, by search
pub ruleset conj = (and_in, and_l, and_r)

pub imp_in : (a b : Bool) → (T a → T b) → T (not a || b)
imp_in true b h = h tt
imp_in false b h = tt

pub imp_out : (a b : Bool) → T (not a || b) → T a → T b
imp_out true b h k = h
imp_out false b h k = absurd k

-- a test has an outcome
pub dec-T : (b : Bool) → T b ⊎ T (not b)
dec-T true = inl tt
dec-T false = inr tt

-- tests that pass together are equal
pub test_eq : (a b : Bool) → (T a → T b) → (T b → T a) → a ≡ b
test_eq true true h k = refl
test_eq true false h k = absurd (h tt)
test_eq false true h k = absurd (k tt)
test_eq false false h k = refl

-- two tests that agree
pub beq_eq : (a b : Bool) → T (beq a b) → a ≡ b
beq_eq true true h = refl
beq_eq true false h = absurd h
beq_eq false true h = absurd h
beq_eq false false h = refl

pub eq_beq : (a b : Bool) → a ≡ b → T (beq a b)
eq_beq a b e = subst (λ c. T (beq a c)) e (self a)
  where
    self : (a : Bool) → T (beq a a)
    self true = tt
    self false = tt

-- the outcome of a test that passes, and of one that does not
pub is_true : (b : Bool) → T b → b ≡ true
is_true true h = refl
is_true false h = absurd h

pub is_false : (b : Bool) → (T b → ⊥) → b ≡ false
is_false true h = absurd (h tt)
is_false false h = refl

-- two tests that agree where c holds, and fail where it does not
pub own_eq : (c a b : Bool) → (T c → a ≡ b) → (T a → T c) → (T b → T c) → a ≡ b
own_eq c true b h f g = h (f tt)
own_eq c false true h f g = h (g tt)
own_eq c false false h f g = refl

-- a test beside one whose outcome is known
pub and_when : (a b : Bool) → b ≡ true → (a && b) ≡ a
and_when true b e = e
and_when false b e = refl

pub or_false : (b : Bool) → (b || false) ≡ b
or_false true = refl
or_false false = refl

-- either order
pub or_swap : (a b : Bool) → (a || b) ≡ (b || a)
or_swap true true = refl
or_swap true false = refl
or_swap false true = refl
or_swap false false = refl

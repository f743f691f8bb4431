-- Tests of the numbers below a bound and of the members of a list; the lowest number that passes; fixed points by rounds.
use Rattle.std.specs.Prelude.{Bool, true, false, ◌&&◌, ◌||◌, cond, List, [], ◌∷◌, ℕ, zero, suc}
use Rattle.meaning.specs.Tests.{any_below}

-- every number below n passes the test
abbrev pub all_below : ℕ → (ℕ → Bool) → Bool
all_below zero f = true
all_below (suc n) f = f n && all_below n f

-- the lowest number below n that passes the test
abbrev pub lowest : ℕ → (ℕ → Bool) → ℕ
lowest zero f = 0
lowest (suc n) f = cond (any_below n f) (lowest n f) n

-- k rounds of an operator on sets, from everything and from nothing
module _ {X : Type 0} (F : (X → Bool) → X → Bool) where
  abbrev pub shrink : ℕ → X → Bool
  shrink zero x = true
  shrink (suc k) x = F (shrink k) x

  abbrev pub grow : ℕ → X → Bool
  grow zero x = false
  grow (suc k) x = F (grow k) x

-- every member of a list, some member
module _ {X : Type 0} (p : X → Bool) where
  abbrev pub all_of : List X → Bool
  all_of [] = true
  all_of (x ∷ xs) = p x && all_of xs

  abbrev pub any_of : List X → Bool
  any_of [] = false
  any_of (x ∷ xs) = p x || any_of xs

-- Some number below a bound, every member of a list, some member of a list.
use Rattle.std.specs.Prelude.{◌⊎◌, Bool, false, ◌||◌, List, [], ◌∷◌, length, get_or, eqb, ℕ, zero, suc}

-- some number below n passes the test
abbrev pub any_below : ℕ → (ℕ → Bool) → Bool
any_below zero f = false
any_below (suc n) f = f n || any_below n f

-- the number w stands in the list
abbrev pub listed : List ℕ → ℕ → Bool
listed zs w = any_below (length zs) (λ j. eqb (get_or zs j 0) w)

module _ {X : Type 0} where
  -- every member of the list, and some member
  abbrev pub All : (X → Type 0) → List X → Type 0
  All P [] = Unit {0}
  All P (x ∷ xs) = P x × All P xs

  abbrev pub Any : (X → Type 0) → List X → Type 0
  Any P [] = ⊥
  Any P (x ∷ xs) = P x ⊎ Any P xs

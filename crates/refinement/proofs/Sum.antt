-- The sum of a list falls where no element grows and some element changes.
use mathlib.Core.Path.{◌≡◌, refl, ap₂}
use mathlib.Core.List.{List, [], ◌∷◌}
use lib.ListN.{length, get_or}
use native.Mathlib.Decide.{ℕ_discrete}
use native.Mathlib.Omega.{arith}
use Prim.Native.Nat.{ℕ, suc, ◌≤◌, ◌<◌}
use Rattle.refinement.specs.Again.{sum}

pub sum_le : (a b : List ℕ) → length a ≡ length b → ((i : ℕ) → get_or a i 0 ≤ get_or b i 0) → sum a ≤ sum b
unfolding sum
sum_le [] [] e h = omega arith
sum_le [] (y ∷ b) e h = omega arith
sum_le (x ∷ a) [] e h = absurd (omega arith)
sum_le (x ∷ a) (y ∷ b) e h = let p = h 0 in let q = sum_le a b (omega arith) (λ i. h (suc i)) in omega arith

pub sum_falls : (a b : List ℕ) → length a ≡ length b → ((i : ℕ) → get_or a i 0 ≤ get_or b i 0) → (a ≡ b → ⊥) → sum a < sum b
unfolding sum
sum_falls [] [] e h n = absurd (n refl)
sum_falls [] (y ∷ b) e h n = absurd (omega arith)
sum_falls (x ∷ a) [] e h n = absurd (omega arith)
sum_falls (x ∷ a) (y ∷ b) e h n =
    let p = h 0 in
    elim (ℕ_discrete x y) [
      | yes q ↦ let r = sum_falls a b (omega arith) (λ i. h (suc i)) (λ z. n (ap₂ (λ u v. u ∷ v) q z)) in omega arith
      | no q ↦ let r = sum_le a b (omega arith) (λ i. h (suc i)) in omega arith
    ]

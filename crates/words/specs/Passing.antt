-- A loop over the members of a set, from the lowest on.
use Rattle.std.specs.Prelude.{◌≡◌, ◌≢◌, ◌⊎◌, Bool, T, ℕ, ◌≤◌, ◌<◌, Option, None, Some}
use Rattle.words.specs.Sets.{has, lowest, without}

-- the members of w that are not in `rest` have been passed, and P holds of each
pub record Passing (w rest : ℕ) (P : ℕ → Type 0) : Type 0 where
  pub less : rest ≤ w
  pub within : (t : ℕ) → T (has rest t) → T (has w t)
  pub passed : (t : ℕ) → T (has w t) → T (has rest t) ⊎ P t

-- a step over the members: the lowest of those that are left comes out, as long as there is one
abbrev pub TakesLowest : ℕ → ℕ → Option ℕ → ℕ → Type 0
TakesLowest k left None after = (left ≡ 0) × (after ≡ 0)
TakesLowest k left (Some z) after = (left ≢ 0) × (z < k) × (z ≡ lowest k left) × (after ≡ without k left (lowest k left))

-- of the members of w those that pass a test, where P y b says that the test may answer b for y
pub record Filtered (P : ℕ → Bool → Type 0) (w result : ℕ) : Type 0 where
  pub less : result ≤ w
  pub only : (y : ℕ) → T (has result y) → T (has w y)
  pub tested : (y : ℕ) → T (has w y) → P y (has result y)

-- the same on the way: the members in `rest` wait
pub record Filtering (P : ℕ → Bool → Type 0) (w result rest : ℕ) : Type 0 where
  pub passing : Passing w rest (λ y. P y (has result y))
  pub less : result ≤ w
  pub only : (y : ℕ) → T (has result y) → T (has w y)
  pub waiting : (y : ℕ) → T (has rest y) → T (has result y)

-- A loop that makes one value out of what it meets, such as a count or a union.
use Rattle.std.specs.Prelude.{◌≡◌, ℕ, ◌≤◌}

-- after k of n turns the value is F k
pub record Folded {X : Type 0} (n : ℕ) (F : ℕ → X) (k : ℕ) (v : X) : Type 0 where
  pub reached : k ≤ n
  pub same : v ≡ F k

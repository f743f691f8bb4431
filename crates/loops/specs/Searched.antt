-- A loop that looks for something and has not found it yet.
use Rattle.std.specs.Prelude.{ℕ, ◌≤◌, ◌<◌}

-- P holds of each of the first k of n numbers
pub record Searched (n : ℕ) (P : ℕ → Type 0) (k : ℕ) : Type 0 where
  pub reached : k ≤ n
  pub each : (i : ℕ) → i < k → P i

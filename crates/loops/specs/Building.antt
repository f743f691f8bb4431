-- A loop that builds a word bit by bit.
use Rattle.std.specs.Prelude.{◌≡◌, Bool, ℕ, ◌≤◌}
use Rattle.words.specs.Sets.{built}

-- w is the set of those of the first k of n numbers that pass f
pub record Building (n : ℕ) (f : ℕ → Bool) (k w : ℕ) : Type 0 where
  pub reached : k ≤ n
  pub word : w ≡ built k f

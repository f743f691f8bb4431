-- The first words of a lent array written, the others as they were.
use Rattle.std.specs.Prelude.{◌≡◌, List, ℕ, ◌≤◌, ◌<◌, length, get_or}

-- new is old with f 0, .., f (n - 1) in front
pub record First (n : ℕ) (f : ℕ → ℕ) (old new : List ℕ) : Type 0 where
  pub long : length new ≡ length old
  pub each : (s : ℕ) → s < n → get_or new s 0 ≡ f s
  pub past : (s : ℕ) → n ≤ s → get_or new s 0 ≡ get_or old s 0

-- nothing
abbrev pub zeros : ℕ → ℕ
zeros s = 0

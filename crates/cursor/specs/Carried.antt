-- A number in the course of being read: the value of the groups so far, carried over what the groups from the present place on are.
use Rattle.std.specs.Prelude.{◌≡◌, List, ltb, drop, ℕ, zero, suc, ◌+◌, ◌-◌, ◌*◌, ◌^◌, ◌≤◌, ◌<◌}
use Rattle.meaning.specs.File.Parser.{Got, found, fault}
use Rattle.meaning.specs.File.Number.{groups, choose}
use Rattle.meaning.specs.File.Grammar.{limits}

-- The whole number, of the value of the lower groups and of the higher ones, which count `weight` times. Higher groups of value 0 are not the
-- shortest form, unless nothing is below them.
abbrev pub carried : ℕ → ℕ → Got ℕ → Got ℕ
carried weight value (found zero at) = choose (ltb 1 weight) (fault 2) (found value at)
carried weight value (found (suc v) at) = found (value + weight * suc v) at
carried weight value (fault r) = fault r

-- The number at `at`, of at most `more` + 1 groups, where at most `left` + 1 of them remain, from `place` on.
pub record Carrying (file : List ℕ) (at more value weight place left : ℕ) : Type 0 where
  pub reached : left ≤ more
  pub scale : weight ≡ 2 ^ (7 * (more - left))
  pub below : value < weight
  pub same : groups limits.last_group more (drop at file) at ≡ carried weight value (groups limits.last_group left (drop place file) place)

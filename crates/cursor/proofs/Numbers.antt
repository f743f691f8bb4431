-- A number of the file, group by group as the code reads it (document 01, The instrument file).
use mathlib.Core.Path.{◌≡◌}
use mathlib.Core.List.{List}
use lib.ListN.{length, get_or, drop, drop_of_length-le}
use lib.Seq.{drop-cons}
use native.Mathlib.Nat.{not-suc-le-zero}
use native.Mathlib.Numerals.{add-one}
use native.Mathlib.Omega.{arith}
use borrow.Author.Tests.{lt-ltb, le-ltb}
use Prim.Native.Nat.{ℕ, zero, suc, ◌+◌, ◌-◌, ◌%◌, ◌≤◌, ◌<◌}
use Rattle.meaning.specs.File.Parser.{Got, found, fault}
use Rattle.meaning.specs.File.Number.{groups, with_higher}
use Rattle.meaning.specs.File.Grammar.{limits}

-- the number from a place on
abbrev pub groups_at : ℕ → List ℕ → ℕ → Got ℕ
groups_at more file at = groups limits.last_group more (drop at file) at

pub at_end : (more : ℕ) (file : List ℕ) (at : ℕ) → length file ≤ at → groups_at more file at ≡ fault 1
unfolding groups
at_end zero file at h = rw (drop_of_length-le file h)
at_end (suc m) file at h = rw (drop_of_length-le file h)

module _ (file : List ℕ) (at : ℕ) (inside : at < length file) where
  -- a group in the last possible place
  pub last_high : (more : ℕ) → more ≡ 0 → limits.last_group < get_or file at 0 → groups_at more file at ≡ fault 2
  unfolding groups
  last_high more e h = rw (e, drop-cons file at 0 inside, lt-ltb limits.last_group (get_or file at 0) h)

  pub last_low : (more : ℕ) → more ≡ 0 → get_or file at 0 ≤ limits.last_group → groups_at more file at ≡ found (get_or file at 0) (at + 1)
  unfolding groups
  last_low more e h = rw (e, drop-cons file at 0 inside, le-ltb limits.last_group (get_or file at 0) h, add-one)

  -- a group before the last possible place: without the high bit it ends the number, with it others follow
  pub ends : (more : ℕ) → 0 < more → get_or file at 0 < 128 → groups_at more file at ≡ found (get_or file at 0) (at + 1)
  unfolding groups
  ends zero p h = absurd (not-suc-le-zero p)
  ends (suc m) p h = rw (drop-cons file at 0 inside, lt-ltb (get_or file at 0) 128 h, add-one)

  pub goes_on : (more : ℕ) → 0 < more → 128 ≤ get_or file at 0
      → groups_at more file at ≡ with_higher (get_or file at 0 % 128) (groups_at (more - 1) file (at + 1))
  unfolding groups
  goes_on zero p h = absurd (not-suc-le-zero p)
  goes_on (suc m) p h =
      let e : suc m - 1 ≡ m = omega arith in
      rw (drop-cons file at 0 inside, le-ltb (get_or file at 0) 128 h, e, add-one)

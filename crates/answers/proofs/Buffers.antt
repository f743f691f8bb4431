-- What is left in a lent buffer (specs/Buffers).
use mathlib.Core.Path.{◌≡◌}
use mathlib.Core.List.{List}
use lib.ListN.{length, get_or, drop, get_or-append}
use lib.Seq.{sets, sets-eq}
use native.Mathlib.Nat.{zero-add}
use native.Mathlib.Omega.{arith}
use Prim.Native.Nat.{ℕ, ◌+◌, ◌≤◌, ◌<◌}
use Rattle.answers.specs.Buffers.{entries, lent_after}

-- entries stored at the front of a lent buffer that has room for them
pub lent_sets : (vs old : List ℕ) → length vs ≤ length old → sets old 0 vs ≡ lent_after (entries vs) old
lent_sets vs old h =
    let e : 0 + length vs ≡ length vs = zero-add (length vs) in
    rw e at (sets-eq vs old 0 (omega arith))

-- an entry that was written
pub lent_at : (vs old : List ℕ) (x : ℕ) → x < length vs → get_or (lent_after (entries vs) old) x 0 ≡ get_or vs x 0
lent_at vs old x h = get_or-append vs (drop (length vs) old) 0 x h

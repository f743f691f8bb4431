-- The lent steps: where a successor word stands, and the table that they are.
use mathlib.Core.List.{List}
use lib.ListN.{length}
use native.Mathlib.Nat.{mul-suc, mul-le-mul_left}
use native.Mathlib.Omega.{arith}
use Prim.Native.Nat.{ℕ, suc, ◌+◌, ◌*◌, ◌^◌, ◌≤◌, ◌<◌}
use Rattle.meaning.specs.StepWords.{Steps}

-- the successor word of a state on an assignment lies within the words
pub within : {states inputs : ℕ} {succ : List ℕ} → Steps states inputs succ → (x a : ℕ) → x < states → a < 2 ^ inputs
    → 2 ^ inputs * x + a < length succ
within {states} {inputs} {succ} h x a l k =
    let m : 2 ^ inputs * suc x ≤ 2 ^ inputs * states = mul-le-mul_left (2 ^ inputs) l in
    omega (arith, h.room, mul-suc (2 ^ inputs) x)

-- Laws of a loop that looks for something: the start, one turn more, the end.
use native.Mathlib.Omega.{arith}
use Prim.Native.Nat.{ℕ, ◌+◌, ◌≤◌, ◌<◌}
use borrow.Author.Count.{below_none, below_more}
use Rattle.loops.specs.Searched.{Searched}

module _ {n : ℕ} {P : ℕ → Type 0} where
  pub searched_start : Searched n P 0
  searched_start = record { reached = omega arith; each = below_none P }

  pub searched_more : {k : ℕ} → Searched n P k → k < n → P k → Searched n P (k + 1)
  searched_more {k} h l p = record { reached = omega arith; each = below_more P k h.each p }

  pub searched_end : {k : ℕ} → Searched n P k → n ≤ k → (i : ℕ) → i < n → P i
  searched_end h l i m = h.each i (omega arith)

-- Laws of a loop that builds a word bit by bit: the start, one bit more, the end.
use mathlib.Core.Path.{◌≡◌, sym, ap, ◌∙◌}
use mathlib.Core.Bool.{Bool, cond}
use native.Mathlib.Omega.{arith}
use Prim.Native.Nat.{ℕ, ◌+◌, ◌≤◌, ◌<◌}
use Rattle.words.specs.Sets.{built, insert}
use Rattle.words.proofs.Built.{built_none, built_more}
use Rattle.loops.specs.Building.{Building}

module _ {n : ℕ} {f : ℕ → Bool} where
  pub building_start : Building n f 0 0
  building_start = record { reached = omega arith; word = sym (built_none f) }

  pub building_more : {k w : ℕ} → Building n f k w → k < n → {v : ℕ} {b : Bool} → v ≡ cond b (insert w k) w → b ≡ f k → Building n f (k + 1) v
  building_more {k} h l e t = record { reached = omega arith; word = e ∙ (rw (t, h.word) (sym (built_more k f))) }

  pub building_end : {k w : ℕ} → Building n f k w → n ≤ k → w ≡ built n f
  building_end {k} h l = let e : k ≡ n = omega (arith, h.reached) in h.word ∙ ap (λ k. built k f) e

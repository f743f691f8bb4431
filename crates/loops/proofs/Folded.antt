-- Laws of a loop that makes one value: the start, one turn more, the end.
use mathlib.Core.Path.{◌≡◌, ap, ◌∙◌}
use native.Mathlib.Omega.{arith}
use Prim.Native.Nat.{ℕ, ◌+◌, ◌≤◌, ◌<◌}
use Rattle.loops.specs.Folded.{Folded}

module _ {X : Type 0} {n : ℕ} {F : ℕ → X} where
  pub folded_start : {v : X} → v ≡ F 0 → Folded n F 0 v
  folded_start e = record { reached = omega arith; same = e }

  -- the next value is got from the last one as F (k + 1) from F k
  pub folded_more : {k : ℕ} {v v' : X} → Folded n F k v → k < n → (g : X → X) → v' ≡ g v → g (F k) ≡ F (k + 1) → Folded n F (k + 1) v'
  folded_more h l g e s = record { reached = omega arith; same = e ∙ ap g h.same ∙ s }

  pub folded_end : {k : ℕ} {v : X} → Folded n F k v → n ≤ k → v ≡ F n
  folded_end {k} h l = let e : k ≡ n = omega (arith, h.reached) in h.same ∙ ap F e

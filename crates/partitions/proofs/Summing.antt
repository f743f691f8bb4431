-- The loop that sums the components' state counts.
use mathlib.Core.Path.{◌≡◌, refl, ap, ◌∙◌}
use lib.ListN.{get_or}
use native.Mathlib.Omega.{arith}
use Prim.Native.Nat.{ℕ, suc, ◌+◌, ◌<◌}
use Rattle.meaning.specs.File.Grammar.{Contents}
use Rattle.instrument.specs.declared.Instrument.{Instrument}
use Rattle.instrument.specs.Described.{Describes}
use Rattle.instrument.proofs.Bounds.{states_bounds}
use Rattle.partitions.specs.Classes.{sum_below, state_sum}
use Rattle.partitions.specs.Progress.{Summing}

module _ (t : Instrument) where
  pub summing_start : Summing t 0 0
  summing_start = record { reached = omega arith; few = omega arith; sums = refl }

  pub summing_more : (k : Contents) → Describes t k → (i sum : ℕ) → i < t.components → Summing t i sum
      → Summing t (i + 1) (sum + get_or t.states i 0)
  summing_more k d i sum l s =
      let e : suc i ≡ i + 1 = omega arith in
      record {
        reached = omega arith;
        few = omega (arith, s.few, (states_bounds t k d i l).1);
        sums = ap (λ v. v + get_or t.states i 0) s.sums ∙ ap (λ j. sum_below j (λ i. get_or t.states i 0)) e;
      }

  pub summing_end : (i sum : ℕ) → t.components ≡ i → Summing t i sum → sum ≡ state_sum t
  summing_end i sum e s = s.sums ∙ ap (λ j. sum_below j (λ i. get_or t.states i 0)) (sym' e)
    where
      sym' : t.components ≡ i → i ≡ t.components
      sym' e = omega arith

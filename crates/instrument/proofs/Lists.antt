-- The place that a search of a list gives.
use mathlib.Core.Path.{◌≡◌}
use mathlib.Core.Bool.{false}
use mathlib.Core.List.{List}
use lib.ListN.{length}
use native.Mathlib.Omega.{arith}
use Prim.Native.Nat.{ℕ, ◌<◌}
use Rattle.std.proofs.Common.{Option, Some, None}
use Rattle.std.specs.List.{AllWithin, HoldsAt}
use Rattle.std.specs.Option.{MatchOption}
use Rattle.meaning.specs.Tests.{listed}
use Rattle.meaning.proofs.Basic.Booleans.{test_eq}
use Rattle.meaning.proofs.Basic.Lists.{listed_at}
use Rattle.instrument.specs.Lists.{StandsAt}

pub place_in : (vs : List ℕ) (w : ℕ) (r : Option ℕ)
    → MatchOption r (AllWithin (λ v. v ≡ w → ⊥) vs 0 (length vs))
    (λ i. (i < length vs) × HoldsAt (λ v. v ≡ w) vs i × AllWithin (λ v. v ≡ w → ⊥) vs 0 i)
    → MatchOption r (listed vs w ≡ false) (StandsAt vs w)
place_in vs w None h =
    test_eq (listed vs w) false (λ l. let (i, k, e) = listed_at vs w l in h i 0 (omega arith) k e) (λ l. absurd l)
place_in vs w (Some i) h = record { placed = h.0; is = h.1 0 }

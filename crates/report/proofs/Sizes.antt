-- How large the full and the merged combination are at most: four components of as many states as there may be.
use native.Mathlib.Nat.{mul-le-mul, pow-le-pow_right, pow-suc}
use native.Mathlib.Omega.{arith}
use Prim.Native.Nat.{ℕ, zero, suc, ◌*◌, ◌^◌, ◌≤◌, ◌<◌}
use Rattle.meaning.specs.Classes.{classes_below}
use Rattle.meaning.specs.Combination.{count}
use Rattle.meaning.specs.Instrument.{components, table}
use Rattle.meaning.specs.File.Grammar.{Contents, instrument_of, limits, most_states}
use Rattle.meaning.specs.File.Promise.{Promised}
use Rattle.meaning.specs.Reference.Answers.{classes_at, full_count, merged_size}
use Rattle.meaning.proofs.Merged.Numbers.{classes_few}
use Rattle.listing_lines.proofs.Lengths.{few_components, few_states}

count_le : (n : ℕ) (m : ℕ → ℕ) → ((i : ℕ) → i < n → m i ≤ most_states) → count n m ≤ most_states ^ n
count_le zero m h = omega arith
count_le (suc n) m h =
    let q : m 0 * count n (λ i. m (suc i)) ≤ most_states * most_states ^ n =
    mul-le-mul (h 0 (omega arith)) (count_le n (λ i. m (suc i)) (λ i l. h (suc i) (omega arith))) in
    omega (arith, q, pow-suc most_states n)

module _ (k : Contents) (p : Promised limits k) where
  power_le : most_states ^ components (instrument_of k) ≤ most_states ^ limits.components
  power_le = let z : 0 < most_states = omega arith in pow-le-pow_right z (few_components k p)

  pub full_few : full_count (instrument_of k) ≤ most_states ^ limits.components
  full_few = omega (arith, power_le, count_le (components (instrument_of k)) (λ i. (table (instrument_of k) i).states) (few_states k p))

  pub merged_few : merged_size (instrument_of k) ≤ most_states ^ limits.components
  merged_few =
      omega (
        arith,
        power_le,
        count_le (components (instrument_of k)) (λ i. classes_below (classes_at (instrument_of k) i) (table (instrument_of k) i).states) (λ i l.
            omega (arith, few_states k p i l, classes_few (classes_at (instrument_of k) i) (table (instrument_of k) i).states)),
      )

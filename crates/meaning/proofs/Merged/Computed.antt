-- Merged truth is what is computed on the indices of merged states; the lookup is the truth by paths in the original combined state.
use mathlib.Core.Path.{◌∙◌, ◌≡◌, ap, refl, subst, sym}
use mathlib.Core.Logic.{◌↔◌}
use mathlib.Core.Bool.{Bool, not}
use lib.Dec.{T, T_not, not_T}
use native.Mathlib.Omega.{arith}
use Prim.Native.Nat.{◌<◌, ℕ}
use Rattle.meaning.specs.Classes.{lowest_of}
use Rattle.meaning.specs.Combination.{State, Truth, count, index}
use Rattle.meaning.specs.Formula.{Formula}
use Rattle.meaning.specs.Marks.{Fail}
use Rattle.meaning.specs.Merged.{MergedTruth, class_numbers, guard, lowest_states, merged_count_of, merged_index, merged_sizes, merged_tables}
use Rattle.meaning.specs.Reference.Marks.{fail_b}
use Rattle.meaning.specs.Reference.Merged.{guard_b, lookup_b, merged_b}
use Rattle.meaning.specs.Reference.Truth.{part}
use Rattle.meaning.specs.Table.{Table}
use Rattle.meaning.specs.Tests.{listed}
use Rattle.meaning.specs.View.{View}
use Rattle.meaning.proofs.Basic.Bounded.{all_in, all_out}
use Rattle.meaning.proofs.Basic.Decides.{Decides}
use Rattle.meaning.proofs.Marks.Decided.{fail_decides}
use Rattle.meaning.proofs.Meaning.Full.{truth_at}
use Rattle.meaning.proofs.Meaning.Index.{index_part, index_same, part_lt}
use Rattle.meaning.proofs.Merged.Merging.{Finer, Merging, class_ok, low_lt, merged_totals, total}
use Rattle.meaning.proofs.Merged.Truth.{merged_truth, merged_state, of_merged}

module _ {n : ℕ} {S : ℕ → Table} {A : Type 0} {val : A → (ℕ → ℕ) → Bool} {κ : ℕ → View A} {E : ℕ → ℕ → ℕ → Type 0} {cls : ℕ → ℕ → ℕ}
    (m : Merging n S val κ E cls) (some : (i : ℕ) → i < n → 0 < (S i).states) (W : ℕ)
    (small : (i : ℕ) → i < n → (w : ℕ) → T (listed (S i).inputs w) → w < W) where
  abbrev M : ℕ → Table
  M = merged_tables n S cls

  abbrev r : ℕ → ℕ
  r = merged_sizes n S cls

  merged_some : (i : ℕ) → i < n → 0 < r i
  merged_some i l = let h = class_ok m i l 0 (some i l) in omega arith

  -- component i's lowest state at the index x
  abbrev low_part : ℕ → ℕ → ℕ
  low_part x i = lowest_states n S cls (λ i. part r i x) i

  guard_decides : (φ : Formula A)
      → Decides (count n r) (guard_b n S cls κ val φ) (λ x. (i : ℕ) → i < n → Fail (S i) (κ i) φ (low_part x i) → ⊥)
  guard_decides φ = record { sound = sound; whole = whole }
    where
      -- FAIL at one component
      fails : (x i : ℕ) → i < n → T (fail_b (S i) (κ i) φ (low_part x i)) ↔ Fail (S i) (κ i) φ (low_part x i)
      fails x i l =
          let d = fail_decides (S i) (κ i) (total m i l) φ in
          let k = low_lt m i l (part r i x) (part_lt r i (merged_some i l) x) in
          (d.sound (low_part x i) k, d.whole (low_part x i) k)

      sound : (x : ℕ) → x < count n r → T (guard_b n S cls κ val φ x) → (i : ℕ) → i < n → Fail (S i) (κ i) φ (low_part x i) → ⊥
      sound x l h i z k =
          T_not (fail_b (S i) (κ i) φ (low_part x i)) (all_out n (λ i. not (fail_b (S i) (κ i) φ (low_part x i))) h i z) ((fails x i z).1 k)

      whole : (x : ℕ) → x < count n r → ((i : ℕ) → i < n → Fail (S i) (κ i) φ (low_part x i) → ⊥) → T (guard_b n S cls κ val φ x)
      whole x l h =
          all_in n (λ i. not (fail_b (S i) (κ i) φ (low_part x i)))
          (λ i z. not_T (fail_b (S i) (κ i) φ (low_part x i)) (λ k. h i z ((fails x i z).0 k)))

  -- the bit computed at the index of a merged state is the guarded truth there
  pub merged_at : (φ : Formula A) (c : State n M) → T (merged_b n S cls κ val W φ (index n r c.at)) ↔ MergedTruth n S cls κ val φ c
  merged_at =
      truth_at n M (merged_totals m) merged_some W small
      (λ a c. val a (lowest_states n S cls c))
      (λ a s u e. m.fits.local a (lowest_states n S cls s) (lowest_states n S cls u) (λ i l. ap (lowest_of (S i) (cls i)) (e i l)))
      (guard n S cls κ val)
      (λ φ s u a g i l z. g i l (subst (λ k. Fail (S i) (κ i) φ (lowest_of (S i) (cls i) k)) (sym (a i l)) z))
      (guard_b n S cls κ val)
      guard_decides

  -- the lookup
  pub lookup_at : (φ : Formula A) → Finer m φ → (s : State n S) → T (lookup_b n S cls κ val W φ s.at) ↔ Truth n S val φ s
  lookup_at φ u s =
      let t = merged_truth m φ u s (merged_state m s) (λ i l. refl) in
      let a = merged_at φ (merged_state m s) in
      (λ z. t.0 (a.0 z), λ z. a.1 (t.1 z))

  -- every number below the merged count is the index of the merged state of some combined state
  pub merged_onto : (x : ℕ) → x < merged_count_of n S cls → (s : State n S) × (merged_index n S cls s.at ≡ x)
  merged_onto x l =
      let c : State n M = record { at = λ i. part r i x; ok = λ i l. part_lt r i (merged_some i l) x } in
      let (s, h) = of_merged m c in
      (s, index_same n r (class_numbers n S cls s.at) c.at (λ i l. sym (h i l)) ∙ index_part n r merged_some x l)

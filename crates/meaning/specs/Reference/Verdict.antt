-- The verdict, computed in document 01's order: a FAIL start, then PASS starts only, then 12, then the merged combination.
use Rattle.std.specs.Prelude.{Bool, true, false, List, leb, ℕ}
use Rattle.meaning.specs.Tests.{any_below}
use Rattle.meaning.specs.Table.{Table}
use Rattle.meaning.specs.Formula.{Formula}
use Rattle.meaning.specs.View.{View}
use Rattle.meaning.specs.Merged.{merged_count_of}
use Rattle.meaning.specs.Verdict.{Answer, judged, oversized, holds, fails, marks, merged}
use Rattle.meaning.specs.Reference.Tests.{all_of, any_of}
use Rattle.meaning.specs.Reference.Marks.{pass_b, fail_b}
use Rattle.meaning.specs.Reference.Relation.{root_class}
use Rattle.meaning.specs.Reference.Merged.{lookup_b}

-- from: marks tell that it fails, that it holds, there is room, all satisfy the root
abbrev pub staged : Bool → Bool → Bool → Bool → Answer
staged true p room r = judged fails marks
staged false true room r = judged holds marks
staged false false false r = oversized
staged false false true true = judged holds merged
staged false false true false = judged fails merged

abbrev pub answer_b : {X : Type 0} → (X → Bool) → (X → Bool) → (X → Bool) → Bool → List X → Answer
answer_b pass fail root room ss = staged (any_of fail ss) (all_of pass ss) room (all_of root ss)

module _ (n : ℕ) (S : ℕ → Table) {A : Type 0} (κ : ℕ → View A) (ρ : Formula A) where
  abbrev pub has_pass_b : (ℕ → ℕ) → Bool
  has_pass_b s = any_below n (λ i. pass_b (S i) (κ i) ρ (s i))

  abbrev pub has_fail_b : (ℕ → ℕ) → Bool
  has_fail_b s = any_below n (λ i. fail_b (S i) (κ i) ρ (s i))

  abbrev pub root_classes : ℕ → ℕ → ℕ
  root_classes i = root_class (S i) (κ i) ρ

  -- the answer for starts of any form, read as combined states; limit is document 01's 4,096
  abbrev pub verdict_b : ℕ → ℕ → (A → (ℕ → ℕ) → Bool) → {X : Type 0} → (X → ℕ → ℕ) → List X → Answer
  verdict_b limit W val at =
      answer_b (λ s. has_pass_b (at s)) (λ s. has_fail_b (at s)) (λ s. lookup_b n S root_classes κ val W ρ (at s))
      (leb (merged_count_of n S root_classes) limit)

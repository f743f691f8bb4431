-- The verdict on a list of starts, and the stage that gives it; verdict, stage and start are document 01's terms (Verdict and listing;
-- Refused, number 12).
use Rattle.std.specs.Prelude.{◌≡◌, ◌⊎◌, ◌↔◌, List, ℕ, ◌<◌}
use Rattle.meaning.specs.Tests.{All, Any}
use Rattle.meaning.specs.Table.{Table}
use Rattle.meaning.specs.Formula.{Formula}
use Rattle.meaning.specs.Combination.{State}
use Rattle.meaning.specs.View.{View}
use Rattle.meaning.specs.Marks.{Pass, Fail}

pub data Verdict : Type 0 where
  holds : Verdict
  fails : Verdict

pub data Stage : Type 0 where
  marks : Stage
  merged : Stage

-- a verdict with its stage; number 12, a merged combination that is too large
pub data Answer : Type 0 where
  judged : Verdict → Stage → Answer
  oversized : Answer

-- Where `failing` and `passing` say what marks tell of all that is judged, and `satisfied` that all of it satisfies the root.
module _ (failing passing : Type 0) where
  -- marks decide
  abbrev pub Decided : Type 0
  Decided = failing ⊎ passing

  module _ (satisfied : Type 0) where
    -- it holds exactly if all that is judged satisfies the root; its stage is marks exactly if marks decide
    pub record Judged (v : Verdict) (g : Stage) : Type 0 where
      pub verdict : (v ≡ holds) ↔ satisfied
      pub stage : (g ≡ marks) ↔ Decided

    -- The right answer, where room says that the merged combination is not too large: 12 only where marks do not decide.
    abbrev pub RightOf : Type 0 → Answer → Type 0
    RightOf room (judged v g) = Judged v g × ((g ≡ marks) ⊎ room)
    RightOf room oversized = (Decided → ⊥) × (room → ⊥)

-- some component's state is PASS of the root, or FAIL
module _ (n : ℕ) (S : ℕ → Table) {A : Type 0} (κ : ℕ → View A) (ρ : Formula A) where
  abbrev pub HasPass : (ℕ → ℕ) → Type 0
  HasPass s = (i : ℕ) × (i < n) × Pass (S i) (κ i) ρ (s i)

  abbrev pub HasFail : (ℕ → ℕ) → Type 0
  HasFail s = (i : ℕ) × (i < n) × Fail (S i) (κ i) ρ (s i)

  -- Starts of any form, which f reads as combined states; R says that a combined state satisfies the root.
  module _ (R : State n S → Type 0) {X : Type 0} (f : X → State n S) where
    -- marks tell that it fails: some start has a FAIL state
    abbrev pub Failing : List X → Type 0
    Failing starts = Any (λ x. HasFail (f x).at) starts

    -- marks tell that it holds: every start has a PASS state
    abbrev pub Passing : List X → Type 0
    Passing starts = All (λ x. HasPass (f x).at) starts

    -- every start satisfies the root
    abbrev pub Satisfied : List X → Type 0
    Satisfied starts = All (λ x. R (f x)) starts

    abbrev pub Right : List X → Type 0 → Answer → Type 0
    Right starts = RightOf (Failing starts) (Passing starts) (Satisfied starts)

-- What the loop over the starts keeps.
use Rattle.std.specs.Prelude.{◌≡◌, Bool, List, [], get_or, ℕ, ◌≤◌}
use Rattle.meaning.specs.Tests.{any_below}
use Rattle.meaning.specs.File.Grammar.{Contents}
use Rattle.meaning.specs.Reference.Tests.{all_below}
use Rattle.start_marks.specs.Starts.{start_states, in_set}

-- a test of start j
abbrev pub of_start : {A : Type 0} → Contents → (List ℕ → A) → ℕ → A
of_start k f j = f (get_or k.starts j [])

-- start j has a state that is in its component's set
abbrev pub start_in : List ℕ → List ℕ → ℕ → ℕ → Bool
start_in sets starts n j = any_below n (in_set sets (start_states starts j))

-- the first j starts are counted in
pub record Tallied (passes fails starts : List ℕ) (n count j : ℕ) (failing passing : Bool) : Type 0 where
  pub reached : j ≤ count
  pub failing_is : failing ≡ any_below j (start_in fails starts n)
  pub passing_is : passing ≡ all_below j (start_in passes starts n)

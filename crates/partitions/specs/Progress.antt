-- How far the loops over the components are.
use Rattle.std.specs.Prelude.{◌≡◌, List, [], ◌∷◌, length, get_or, replicate, ℕ, ◌*◌, ◌≤◌}
use Rattle.meaning.specs.File.Grammar.{Contents, instrument_of, limits, most_states}
use Rattle.meaning.specs.Reference.Answers.{list_below, join_below}
use Rattle.instrument.specs.declared.Instrument.{Instrument}
use Rattle.mark_rules.specs.declared.Mark.{Mark}
use Rattle.marks.specs.Written.{Written}
use Rattle.compared.specs.Compared.{ReadSignals}
use Rattle.partitions.specs.Classes.{component_classes, no_names, MarkedInstrument, sum_below}

-- the first so many names of a row
abbrev pub names_in : List ℕ → ℕ → List ℕ
names_in row states = list_below states (λ x. get_or row x 0)

-- the classes of the first i components are there
pub record Naming (t : Instrument) (marks : List (List Mark)) (read : ℕ) (roots : List ℕ) (i : ℕ) (names : List (List ℕ)) : Type 0 where
  pub reached : i ≤ t.components
  pub each : (k : Contents) → MarkedInstrument t marks k → ReadSignals k read
      → Written (replicate limits.components no_names) 0 t.components (λ i. component_classes (instrument_of k) roots i ∷ []) i names

-- the names of the first i of n components are written, one component after the other, and the next place is known
pub record Writing (n : ℕ) (states : List ℕ) (names : List (List ℕ)) (out₀ : List ℕ) (i place : ℕ) (out : List ℕ) : Type 0 where
  pub written : Written out₀ 0 n (λ i. names_in (get_or names i []) (get_or states i 0)) i out
  pub next : place ≡ length (join_below i (λ i. names_in (get_or names i []) (get_or states i 0)))

-- the states of the first i components are summed
pub record Summing (t : Instrument) (i sum : ℕ) : Type 0 where
  pub reached : i ≤ t.components
  pub few : sum ≤ most_states * i
  pub sums : sum ≡ sum_below i (λ i. get_or t.states i 0)

-- A component's outputs and output words within document 01's limits (The instrument file).
use Rattle.std.specs.Prelude.{◌≡◌, List, length, get_or, ℕ, ◌≤◌, ◌<◌}
use Rattle.meaning.specs.File.Grammar.{limits}

-- a list of signals in strictly ascending order
pub record Ascending (vs : List ℕ) : Type 0 where
  pub each : (i j : ℕ) → i < j → j < length vs → get_or vs i 0 < get_or vs j 0

-- the outputs in ascending order, and an output word for each state
pub record Lists (states : ℕ) (outputs outs : List ℕ) : Type 0 where
  pub output_count : length outputs ≤ limits.outputs
  pub ascending : Ascending outputs
  pub out_count : states ≤ length outs

-- the number stands at this place of the list
pub record StandsAt (vs : List ℕ) (w i : ℕ) : Type 0 where
  pub placed : i < length vs
  pub is : get_or vs i 0 ≡ w

-- The answer to a question that lends a buffer, in document 01's words.
use Rattle.std.specs.Prelude.{◌≡◌, List, Result, Ok, Err, ℕ}
use Rattle.answers.specs.Buffers.{Outcome, outcome_number, lent_after}
use Rattle.cursor.specs.Answers.{number}
use Rattle.cursor.specs.declared.Refusal.{Refusal}
use Rattle.answers.specs.Outcomes.{outcome_count}

-- its number, 0 where it is not refused; how many entries were written, 0 where it is refused
abbrev pub written_number : Result ℕ Refusal → ℕ
written_number (Ok n) = 0
written_number (Err r) = number r

abbrev pub written_count : Result ℕ Refusal → ℕ
written_count (Ok n) = n
written_count (Err r) = 0

-- the result and the lent buffer are those of the outcome
pub record Answered (o : Outcome) (r : Result ℕ Refusal) (old new : List ℕ) : Type 0 where
  pub number : written_number r ≡ outcome_number o
  pub count : written_count r ≡ outcome_count o
  pub buffer : new ≡ lent_after o old

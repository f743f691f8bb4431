-- Answers as numbers, for callers that can be handed no enum: a refusal is its number times 2 ^ 32, and an answer is below 2 ^ 32.
use Rattle.std.specs.Prelude.{◌≡◌, Bool, true, false, List, length, Result, Ok, Err, ℕ, ◌+◌, ◌-◌, ◌*◌, ◌/◌, ◌%◌, ◌^◌}
use Rattle.meaning.specs.Verdict.{Verdict, Stage, holds, fails, marks, merged}
use Rattle.meaning.specs.File.Parser.{Got, found, fault}
use Rattle.meaning.specs.File.Stretches.{Stretch}
use Rattle.answers.specs.Buffers.{Outcome, refused, entries, lent_after}
use Rattle.cursor.specs.Answers.{number}
use Rattle.answers.specs.Outcomes.{Reply, given, denied, Judgement}
use Rattle.cursor.specs.declared.Refusal.{Refusal}

-- a question that lends a buffer: how many entries were written
abbrev pub outcome_code : Outcome → ℕ
outcome_code (refused r) = r * 2 ^ 32
outcome_code (entries vs) = length vs

-- an answer whose number is told, or the refusal
abbrev pub coded : {A : Type 0} → (A → ℕ) → Result A Refusal → ℕ
coded code (Err r) = number r * 2 ^ 32
coded code (Ok a) = code a

abbrev pub written_code : Result ℕ Refusal → ℕ
written_code = coded (λ n. n)

-- the result and the lent buffer are those of the outcome
pub record Returned (o : Outcome) (r : ℕ) (old new : List ℕ) : Type 0 where
  pub code : r ≡ outcome_code o
  pub buffer : new ≡ lent_after o old

-- the lookup: 1 where the root is true, 0 where it is false
abbrev pub truth_code : Bool → ℕ
truth_code true = 1
truth_code false = 0

abbrev pub lookup_code : Reply Bool → ℕ
lookup_code (given b) = truth_code b
lookup_code (denied r) = r * 2 ^ 32

-- the verdict: 0 for "fails marks", 1 for "holds marks", 2 for "fails merged", 3 for "holds merged"
abbrev pub judgement_code : Verdict → Stage → ℕ
judgement_code fails marks = 0
judgement_code holds marks = 1
judgement_code fails merged = 2
judgement_code holds merged = 3

abbrev pub told_code : Judgement → ℕ
told_code j = judgement_code j.verdict j.stage

abbrev pub verdict_code : Reply Judgement → ℕ
verdict_code (given j) = told_code j
verdict_code (denied r) = r * 2 ^ 32

-- a component's part of the file: the place where it begins, and below it, in the last 16 bits, how many bytes it has
abbrev pub component_code : Got Stretch → ℕ
component_code (found s at) = s.start * 2 ^ 16 + (s.end - s.start)
component_code (fault r) = r * 2 ^ 32

-- what a caller takes from that number
abbrev pub place_in : ℕ → ℕ
place_in r = r % 2 ^ 32 / 2 ^ 16

abbrev pub size_in : ℕ → ℕ
size_in r = r % 2 ^ 16

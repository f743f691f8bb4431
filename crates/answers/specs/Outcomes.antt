-- What each question is answered, from the bytes of a file: the faults of the file come first, then an asked state, then numbers 11 and 12, then
-- 13 (document 01, Refused).
use Rattle.std.specs.Prelude.{Bool, List, leb, ltb, eqb, length, get_or, take, drop, ℕ, ◌-◌}
use Rattle.meaning.specs.Instrument.{Instrument, components, table, root_formula}
use Rattle.meaning.specs.Seen.{value_of, view_of}
use Rattle.meaning.specs.Verdict.{Answer, Verdict, Stage, judged, oversized}
use Rattle.meaning.specs.File.Parser.{Got, found, fault}
use Rattle.meaning.specs.File.Number.{choose}
use Rattle.meaning.specs.File.Grammar.{Contents, instrument_of, read_file}
use Rattle.meaning.specs.File.Stretches.{Stretch, start_of, end_of, located}
use Rattle.meaning.specs.Reference.Tests.{all_below}
use Rattle.meaning.specs.Reference.Merged.{lookup_b}
use Rattle.meaning.specs.Reference.Verdict.{verdict_b}
use Rattle.meaning.specs.Reference.Answers.{full_count, full_words, mark_words_of, class_names_of, classes_at, merged_size, merged_words}
use Rattle.answers.specs.Buffers.{Outcome, refused, entries, fitting}

-- the largest combination that is built
abbrev pub most_combined : ℕ
most_combined = 4096

-- the outcome for the instrument of an accepted file, else the number of the file's first fault
abbrev pub after : Got Contents → (Instrument → Outcome) → Outcome
after (found c end) f = f (instrument_of c)
after (fault r) f = refused r

-- an outcome that a combination of so many states allows, else the number of its refusal
abbrev pub within : ℕ → ℕ → Outcome → Outcome
within size r o = choose (leb size most_combined) o (refused r)

-- the questions that lend a buffer, with so much room
unfoldable pub full_outcome : List ℕ → ℕ → Outcome
full_outcome file room = after (read_file file) (λ I. within (full_count I) 11 (fitting room (full_words I)))

unfoldable pub mark_outcome : List ℕ → ℕ → Outcome
mark_outcome file room = after (read_file file) (λ I. fitting room (mark_words_of I))

unfoldable pub class_outcome : List ℕ → ℕ → Outcome
class_outcome file room = after (read_file file) (λ I. fitting room (class_names_of I))

unfoldable pub merged_outcome : List ℕ → ℕ → Outcome
merged_outcome file room = after (read_file file) (λ I. within (merged_size I) 12 (fitting room (merged_words I)))

-- how many entries are written, 0 where nothing is
abbrev pub outcome_count : Outcome → ℕ
outcome_count (refused r) = 0
outcome_count (entries vs) = length vs

-- the answer to a question without a buffer: a refusal's number, or a value
pub data Reply (X : Type 0) : Type 0 where
  denied : ℕ → Reply X
  given : X → Reply X

abbrev pub reply_after : {X : Type 0} → Got Contents → (Instrument → Reply X) → Reply X
reply_after (found c end) f = f (instrument_of c)
reply_after (fault r) f = denied r

-- four state numbers are a combined state: each in its component, and 0 past the last
abbrev pub asks_state : Instrument → List ℕ → Bool
asks_state I s = all_below 4 (λ i. choose (ltb i (components I)) (ltb (get_or s i 0) (table I i).states) (eqb (get_or s i 0) 0))

-- the lookup: 9 for a state that is none, then 12, then the root's bit at the merged state
abbrev pub looked_up : Instrument → List ℕ → Bool
looked_up I s =
    lookup_b (components I) (table I) (classes_at I) (view_of I) (value_of I) I.signals (root_formula I)
    (λ i. get_or s i 0)

abbrev pub lookup_of : Instrument → List ℕ → Reply Bool
lookup_of I s = choose (asks_state I s) (choose (leb (merged_size I) most_combined) (given (looked_up I s)) (denied 12)) (denied 9)

unfoldable pub lookup_reply : List ℕ → List ℕ → Reply Bool
lookup_reply file s = reply_after (read_file file) (λ I. lookup_of I s)

-- the verdict with its stage; number 12
pub record Judgement : Type 0 where
  pub verdict : Verdict
  pub stage : Stage

abbrev pub judgement : Answer → Reply Judgement
judgement (judged v g) = given (record { verdict = v; stage = g })
judgement oversized = denied 12

abbrev pub verdict_of : Instrument → Answer
verdict_of I =
    verdict_b (components I) (table I) (view_of I) (root_formula I) most_combined I.signals (value_of I)
    (λ start i. get_or start i 0) I.starts

unfoldable pub verdict_reply : List ℕ → Reply Judgement
verdict_reply file = reply_after (read_file file) (λ I. judgement (verdict_of I))

-- ---- the stretch query

-- the bytes of a stretch, none where the question is refused
abbrev pub bytes_of : List ℕ → Got Stretch → List ℕ
bytes_of file g = take (end_of g - start_of g) (drop (start_of g) file)

-- component c's bytes, from its state count to its last successor set
abbrev pub component_bytes_of : List ℕ → ℕ → List ℕ
component_bytes_of file c = bytes_of file (located file c)

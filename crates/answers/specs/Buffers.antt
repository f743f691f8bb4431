-- What a question with a lent buffer is answered, and what it leaves in the buffer (document 01, Refused).
use Rattle.std.specs.Prelude.{List, ◌++◌, leb, length, drop, ℕ}
use Rattle.meaning.specs.File.Number.{choose}

-- a refusal's number, or the entries to be written
pub data Outcome : Type 0 where
  refused : ℕ → Outcome
  entries : List ℕ → Outcome

-- its number, 0 where it is not refused; and the lent buffer afterwards: as it was, or the entries and then the rest as it was
abbrev pub outcome_number : Outcome → ℕ
outcome_number (refused r) = r
outcome_number (entries vs) = 0

abbrev pub lent_after : Outcome → List ℕ → List ℕ
lent_after (refused r) old = old
lent_after (entries vs) old = vs ++ drop (length vs) old

-- entries for a buffer with so much room: 13 if it is too short
abbrev pub fitting : ℕ → List ℕ → Outcome
fitting room vs = choose (leb (length vs) room) (entries vs) (refused 13)

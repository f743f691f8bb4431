-- Which numbers a question can be refused with, whatever the file, the room and what is asked (document 01, Refused). Number 14 is none of them
-- and is not used again (document 02, 6/14).
use Rattle.std.specs.Prelude.{◌≡◌, ◌⊎◌, List, [], ◌∷◌, ℕ}
use Rattle.meaning.specs.Tests.{Any}
use Rattle.meaning.specs.File.Parser.{fault}
use Rattle.meaning.specs.File.Promise.{Within}
use Rattle.meaning.specs.File.Stretches.{located}
use Rattle.answers.specs.Buffers.{refused}
use Rattle.answers.specs.Outcomes.{denied, full_outcome, mark_outcome, class_outcome, merged_outcome, lookup_reply, verdict_reply}
use Rattle.answers.specs.Listing.{listing_outcome}
use Rattle.answers.specs.Questions.{Question, full, marks, classes, merged, listing, verdict, stretch, lookup, unknown}

-- the question about this file is refused with r; where it lends a buffer, for some room
abbrev pub RefusedWith : Question → List ℕ → ℕ → Type 0
RefusedWith full file r = (room : ℕ) × (full_outcome file room ≡ refused r)
RefusedWith marks file r = (room : ℕ) × (mark_outcome file room ≡ refused r)
RefusedWith classes file r = (room : ℕ) × (class_outcome file room ≡ refused r)
RefusedWith merged file r = (room : ℕ) × (merged_outcome file room ≡ refused r)
RefusedWith listing file r = (room : ℕ) × (listing_outcome file room ≡ refused r)
RefusedWith verdict file r = verdict_reply file ≡ denied r
RefusedWith (stretch c) file r = located file c ≡ fault r
RefusedWith (lookup s0 s1 s2 s3) file r = lookup_reply file (s0 ∷ s1 ∷ s2 ∷ s3 ∷ []) ≡ denied r
RefusedWith unknown file r = ⊥

-- the numbers of a question beside 1 to 10, which are those of the file's faults, of an asked component (3) and of an asked state (9)
abbrev pub own_numbers : Question → List ℕ
own_numbers full = 11 ∷ 13 ∷ []
own_numbers marks = 13 ∷ []
own_numbers classes = 13 ∷ []
own_numbers merged = 12 ∷ 13 ∷ []
own_numbers listing = 12 ∷ 13 ∷ []
own_numbers verdict = 12 ∷ []
own_numbers (stretch c) = []
own_numbers (lookup s0 s1 s2 s3) = 12 ∷ []
own_numbers unknown = []

-- the question's sheet: 1 to 10, and its own numbers
abbrev pub OnSheet : Question → ℕ → Type 0
OnSheet q r = Within 1 10 r ⊎ Any (λ m. r ≡ m) (own_numbers q)

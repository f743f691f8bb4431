-- What a question left in an empty vector: the text of its answer, or nothing where it is refused, and then the line of the refusal is the text.
use Rattle.std.specs.Prelude.{◌≡◌, List, [], Result, Ok, Err, ℕ}
use Rattle.cursor.specs.Answers.{number}
use Rattle.cursor.specs.declared.Refusal.{Refusal}
use Rattle.answers.specs.Listing.{refusal_line_of}

-- what the vector has afterwards, and the text that is printed
abbrev pub Told : {A : Type 0} → Result A Refusal → List ℕ → List ℕ → Type 0
Told (Ok a) made text = made ≡ text
Told (Err cause) made text = (made ≡ []) × (refusal_line_of (number cause) ≡ text)

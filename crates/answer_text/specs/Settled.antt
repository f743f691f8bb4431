-- The text made from the first bytes of an input is the text for the whole input.
use Rattle.std.specs.Prelude.{◌≡◌, List, take, ℕ, ◌+◌, ◌*◌}
use Rattle.meaning.specs.File.Promise.{listing_bytes}
use Rattle.answers.specs.Questions.{question_of}
use Rattle.answers.specs.Printed.{printed}

-- room for every text: two digits for each byte that settles every input, and the line end
abbrev pub text_bytes : ℕ
text_bytes = 2 * listing_bytes + 1

-- whatever input begins with the file, where the file is all of it or has so many bytes
pub record Settled (bytes : ℕ) (line file text : List ℕ) : Type 0 where
  pub longer : (all : List ℕ) → file ≡ take bytes all → text ≡ printed (question_of line) all

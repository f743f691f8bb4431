-- The words of a line from a place on, and the numbers that they are.
use Rattle.std.specs.Prelude.{◌≡◌, ◌≢◌, true, false, cond, Option, Some, None, List, [], ◌++◌, map, leb, length, get_or, drop, ℕ, ◌+◌, ◌≤◌, ◌<◌}
use Rattle.answers.specs.Questions.{words_of, all_numbers, number_of}
use Rattle.arrayvec.specs.ArrayVec.{ArrayVec}

-- no space lies from this place on before that one
pub record Unspaced (line : List ℕ) (from at : ℕ) : Type 0 where
  pub after : from ≤ at
  pub within : at ≤ length line
  pub none : (i : ℕ) → from ≤ i → i < at → get_or line i 0 ≢ 32

-- a word from this place on ends here: no space lies between, and a space or the line's end follows
pub record Ends (line : List ℕ) (from end : ℕ) : Type 0 where
  pub clear : Unspaced line from end
  pub stop : end < length line → get_or line end 0 ≡ 32

-- the words that begin at this place or later; none past the line's end
abbrev pub words_from : List ℕ → ℕ → List (List ℕ)
words_from line from = cond (leb from (length line)) (words_of (drop from line)) []

-- of the words from a place on, the first are these numbers; the others begin at another place
pub record Taken (line : List ℕ) (from at : ℕ) (values : List ℕ) : Type 0 where
  pub reached : at ≤ length line + 1
  pub numbers : all_numbers (words_from line from) ≡ all_numbers (words_from line at)
  pub same : map number_of (words_from line from) ≡ values ++ map number_of (words_from line at)
  pub many : length (words_from line from) ≡ length values + length (words_from line at)

-- words that are numbers, and their values
pub record Given (values : List ℕ) (ws : List (List ℕ)) : Type 0 where
  pub numbers : all_numbers ws ≡ true
  pub same : map number_of ws ≡ values

-- some word is no number, or there are more than eight words
pub data Unfit (ws : List (List ℕ)) : Type 0 where
  other : all_numbers ws ≡ false → Unfit ws
  many : 8 < length ws → Unfit ws

-- what the answer says of these words
abbrev pub Reads : Option (ArrayVec ℕ) → List (List ℕ) → Type 0
Reads (Some v) ws = Given v.items ws
Reads None ws = Unfit ws

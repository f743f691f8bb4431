-- The number that a text writes in decimal digits.
use Rattle.std.specs.Prelude.{◌≡◌, true, cond, Option, Some, None, List, length, ℕ, ◌^◌, ◌≤◌, ◌<◌}
use Rattle.meaning.specs.Reference.Tests.{all_below}
use Rattle.answers.specs.Questions.{digit_at, value_before, is_number, number_of}

unfoldable pub number_in : List ℕ → Option ℕ
number_in text = cond (is_number text) (Some (number_of text)) None

-- the first i bytes are digits with the value v
pub record Digits (text : List ℕ) (i v : ℕ) : Type 0 where
  pub reached : i ≤ length text
  pub short : length text ≤ 10
  pub some : 1 ≤ length text
  pub small : v < 10 ^ i
  pub value : v ≡ value_before text i
  pub all : all_below i (digit_at text) ≡ true

-- A relation of states as rows of words: bit y of row x says that x and y are related.
use Rattle.std.specs.Prelude.{◌≡◌, Bool, List, length, get_or, replicate, ℕ, ◌≤◌, ◌<◌}
use Rattle.std.proofs.lemmas.List.Edits.{sets}
use Rattle.words.specs.Sets.{has, built}
use Rattle.meaning.specs.File.Grammar.{most_states}
use Rattle.meaning.specs.Reference.Answers.{list_below}

-- k numbers: f x at each x below n, and 0 from n on
unfoldable pub padded : ℕ → ℕ → (ℕ → ℕ) → List ℕ
padded k n f = sets (replicate k 0) 0 (list_below n f)

-- the test that rows are
abbrev pub rel : List ℕ → ℕ → ℕ → Bool
rel r x y = has (get_or r x 0) y

-- the rows of a test of pairs of states below n; every other bit is 0
unfoldable pub rows : ℕ → (ℕ → ℕ → Bool) → List ℕ
rows n b = padded most_states n (λ x. built n (b x))

-- a row for each state below n, where P x w says that w may be the row of x; every other one is 0
pub record RowsOf (P : ℕ → ℕ → Type 0) (n : ℕ) (r : List ℕ) : Type 0 where
  pub long : length r ≡ most_states
  pub each : (x : ℕ) → x < n → P x (get_or r x 0)
  pub past : (x : ℕ) → n ≤ x → get_or r x 0 ≡ 0

-- Words changed at some places of a list, and the converse of a relation made so.
use Rattle.std.specs.Prelude.{◌≡◌, List, T, length, get_or, ℕ, ◌≤◌, ◌<◌}
use Rattle.words.specs.Sets.{has, built}
use Rattle.words.specs.Passing.{Passing}
use Rattle.meaning.specs.File.Grammar.{most_states}
use Rattle.classes.specs.Rows.{rel}

-- the words at some places changed by g, the others as they were
pub record Changed (g : ℕ → ℕ) (places : ℕ) (old new : List ℕ) : Type 0 where
  pub long : length new ≡ length old
  pub at : (z : ℕ) → T (has places z) → get_or new z 0 ≡ g (get_or old z 0)
  pub other : (z : ℕ) → (T (has places z) → ⊥) → get_or new z 0 ≡ get_or old z 0

-- the same on the way: the places in `rest` wait
pub record Changing (g : ℕ → ℕ) (places rest : ℕ) (old new : List ℕ) : Type 0 where
  pub passing : Passing places rest (λ z. get_or new z 0 ≡ g (get_or old z 0))
  pub long : length new ≡ length old
  pub waiting : (z : ℕ) → T (has rest z) → get_or new z 0 ≡ get_or old z 0
  pub other : (z : ℕ) → (T (has places z) → ⊥) → get_or new z 0 ≡ get_or old z 0

-- s is the converse of r as far as the rows of r below x say it, on the way to n
pub record Turning (n : ℕ) (r s : List ℕ) (x : ℕ) : Type 0 where
  pub bound : x ≤ n
  pub long : length s ≡ most_states
  pub row : (y : ℕ) → y < n → get_or s y 0 ≡ built x (λ x. rel r x y)
  pub past : (y : ℕ) → n ≤ y → get_or s y 0 ≡ 0

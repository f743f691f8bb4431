-- A loop that fills a list part by part.
use Rattle.std.specs.Prelude.{◌≡◌, List, [], ◌∷◌, length, ℕ, ◌≤◌}
use Rattle.std.proofs.lemmas.List.Edits.{sets}
use Rattle.meaning.specs.Reference.Answers.{join_below}

-- of n parts f 0, f 1, .. the first k are stored in the list l₀ from a place on, one after the other
pub record Written {X : Type 0} (l₀ : List X) (at n : ℕ) (f : ℕ → List X) (k : ℕ) (l : List X) : Type 0 where
  pub reached : k ≤ n
  pub long : length l ≡ length l₀
  pub same : l ≡ sets l₀ at (join_below k f)

-- parts of one member each: the members f 0, f 1, .. of a list
abbrev pub Filling : {X : Type 0} → List X → ℕ → ℕ → (ℕ → X) → ℕ → List X → Type 0
Filling l₀ at n f k l = Written l₀ at n (λ k. f k ∷ []) k l

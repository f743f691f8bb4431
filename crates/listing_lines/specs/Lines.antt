-- What the lines of the listing are made from (document 01, Verdict and listing).
use Rattle.std.specs.Prelude.{List, [], ◌++◌, get_or, length, ℕ}
use Rattle.meaning.specs.Reference.Answers.{join_below}
use Rattle.answers.specs.Listing.{decimal, space, class_line}

-- the names of so many states, each after a space
abbrev pub spaced_names : ℕ → (ℕ → ℕ) → List ℕ
spaced_names states names = join_below states (λ x. space ++ decimal (names x))

-- the same of a list of names, and the class line of component c
abbrev pub names_text : List ℕ → List ℕ
names_text names = spaced_names (length names) (λ x. get_or names x 0)

abbrev pub named_line : ℕ → List ℕ → List ℕ
named_line c names = class_line c (length names) (λ x. get_or names x 0)

-- the class lines of n components, from their state counts and their rows of names
abbrev pub class_lines : ℕ → List ℕ → List (List ℕ) → List ℕ
class_lines n states names = join_below n (λ i. class_line i (get_or states i 0) (λ x. get_or (get_or names i []) x 0))

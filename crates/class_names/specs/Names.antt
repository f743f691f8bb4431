-- Names, number and members of the classes of one component (document 01, Classes).
use Rattle.std.specs.Prelude.{List, T, eqb, get_or, ℕ, ◌<◌}
use Rattle.words.specs.Sets.{built, size}
use Rattle.meaning.specs.Tests.{any_below}
use Rattle.meaning.specs.Classes.{classes_below}
use Rattle.meaning.specs.Reference.Tests.{lowest}
use Rattle.meaning.specs.File.Grammar.{most_states}
use Rattle.state_words.specs.Width.{state_bits}
use Rattle.classes.specs.Rows.{padded, rel}

-- each row of a state has a state in it, as that of an equivalence has the state itself
pub record Inhabited (states : ℕ) (r : List ℕ) : Type 0 where
  pub some : (x : ℕ) → x < states → T (any_below states (rel r x))

-- "A class is named by its lowest state": the name of x at x, and 0 past the states
unfoldable pub class_names_of : List ℕ → ℕ → List ℕ
class_names_of r states = padded most_states states (λ x. lowest states (rel r x))

-- how many classes there are: states that are the name of their class
unfoldable pub class_count_of : List ℕ → ℕ → ℕ
class_count_of names states = classes_below (λ x. get_or names x 0) states

-- the member word of the class named c, "where bit t stands for state t"
unfoldable pub member_word : List ℕ → ℕ → ℕ → ℕ
member_word names states c = built states (λ x. eqb (get_or names x 0) c)

-- "A class's size is the number of ones in its member word"
unfoldable pub class_size : List ℕ → ℕ → ℕ → ℕ
class_size names states c = size state_bits (member_word names states c)

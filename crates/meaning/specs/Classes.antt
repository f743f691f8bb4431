-- Classes, document 01's term: the sets of states that an equivalence relates, each named by its lowest state (document 01, Classes).
use Rattle.std.specs.Prelude.{◌&&◌, cond, eqb, ℕ, zero, suc, ◌+◌, ◌≤◌, ◌<◌}
use Rattle.meaning.specs.Table.{Table}

-- cls gives each state the name of its class: the lowest state that it is equivalent to
pub record ClassNames (t : Table) (E : ℕ → ℕ → Type 0) (cls : ℕ → ℕ) : Type 0 where
  pub member : (x : ℕ) → x < t.states → E x (cls x)
  pub lowest : (x y : ℕ) → x < t.states → y < t.states → E x y → cls x ≤ y

-- how many class names are below n; a class's number is how many are below its own name, so that numbers ascend with names
abbrev pub classes_below : (ℕ → ℕ) → ℕ → ℕ
classes_below cls zero = 0
classes_below cls (suc n) = cond (eqb (cls n) n) 1 0 + classes_below cls n

abbrev pub class_count_of : Table → (ℕ → ℕ) → ℕ
class_count_of t cls = classes_below cls t.states

abbrev pub class_number : (ℕ → ℕ) → ℕ → ℕ
class_number cls x = classes_below cls (cls x)

-- the k-th class name below n, and that of a table: the lowest state of class k
abbrev pub nth_below : (ℕ → ℕ) → ℕ → ℕ → ℕ
nth_below cls zero k = 0
nth_below cls (suc n) k = cond (eqb (cls n) n && eqb (classes_below cls n) k) n (nth_below cls n k)

abbrev pub lowest_of : Table → (ℕ → ℕ) → ℕ → ℕ
lowest_of t cls k = nth_below cls t.states k

-- The relation of EG and EU by rows that are looked at again: what the work keeps. A relation and its converse are cut down together. The
-- rule of a pair is tested in two halves: row x of the relation has the y whose non-FAIL successors are matched by those of x; the other half is
-- the same of the converse.
use Rattle.std.specs.Prelude.{◌≡◌, ◌⊎◌, Bool, ◌&&◌, ◌||◌, cond, List, [], ◌∷◌, T, length, get_or, set, ℕ, ◌+◌, ◌^◌, ◌≤◌, ◌<◌}
use Rattle.words.specs.Sets.{has, built, complement, intersection, union, without}
use Rattle.meaning.specs.Table.{Table, assignments}
use Rattle.meaning.specs.Tests.{any_below}
use Rattle.meaning.specs.Reference.Relation.{matched_b}
use Rattle.mark_rules.specs.declared.Mark.{Mark}
use Rattle.classes.specs.Rows.{rel, rows}
use Rattle.classes.specs.Changed.{Changed}
use Rattle.meaning.specs.File.Grammar.{most_states}
use Rattle.state_words.specs.Width.{state_bits}
use Rattle.refinement.specs.declared.side.Side.{Side}

-- the sum of a list
unfoldable pub sum : List ℕ → ℕ
sum [] = 0
sum (x ∷ xs) = x + sum xs

-- the successors of x on any assignment
abbrev pub after_any : Table → ℕ → ℕ
after_any t x = built t.states (λ v. any_below (assignments t) (λ a. t.next x a v))

-- row v has the states with the successor v on some assignment
unfoldable pub predecessor_rows : Table → List ℕ
predecessor_rows t = rows t.states (λ v x. any_below (assignments t) (λ a. t.next x a v))

-- the states below n that are in one of the first a of the sets f 0, f 1, ..
abbrev pub united_to : ℕ → (ℕ → ℕ) → ℕ → ℕ
united_to n f a = built n (λ v. any_below a (λ a. has (f a) v))

-- both PASS, or both FAIL, of the node
abbrev pub known_b : Mark → ℕ → ℕ → Bool
known_b m x y = (has m.pass x && has m.pass y) || (has m.fail x && has m.fail y)

-- the states that are known with x
unfoldable pub known_with : Mark → ℕ → ℕ
known_with m x = union (cond (has m.pass x) m.pass 0) (cond (has m.fail x) m.fail 0)

-- the predecessors of the members of w
abbrev pub before_any : ℕ → List ℕ → ℕ → ℕ
before_any states before w = built states (λ u. any_below states (λ v. has w v && rel before v u))

-- The pairs of x and the members of `failed` taken out of a relation A and of its converse B; noted are the pairs of a predecessor of x and
-- one of what failed, with their rows.
pub record Deleted (states : ℕ) (before : List ℕ) (x failed : ℕ) (A B A' B' : Side) : Type 0 where
  pub rows : A'.rows ≡ set A.rows x (intersection (get_or A.rows x 0) (complement states failed))
  pub other : Changed (λ w. without state_bits w x) failed B.rows B'.rows
  pub again : Changed (union (before_any states before failed)) (get_or before x 0) A.again A'.again
  pub back : Changed (union (get_or before x 0)) (before_any states before failed) B.again B'.again
  pub more : A'.todo ≡ union (get_or before x 0) A.todo
  pub more_back : B'.todo ≡ union (before_any states before failed) B.todo

-- how much a relation and its converse have left: it never grows, and falls where a pair goes out
unfoldable pub total : Side → Side → ℕ
total A B = sum A.rows + sum B.rows

-- bits of the states alone
pub record Cut (states : ℕ) (r : List ℕ) : Type 0 where
  pub long : length r ≡ most_states
  pub narrow : (x : ℕ) → get_or r x 0 < 2 ^ states
  pub past : (x : ℕ) → states ≤ x → get_or r x 0 ≡ 0

module _ (t : Table) (m : Mark) where
  -- x and y are known, or the non-FAIL successors of y are matched by those of x
  abbrev pub fine_b : (ℕ → ℕ → Bool) → ℕ → ℕ → Bool
  fine_b R x y = known_b m x y || matched_b t (λ z. 0) (has m.fail) (λ u v. R v u) y x

  -- each pair of a relation is fine
  pub record Fine (R : ℕ → ℕ → Bool) : Type 0 where
    pub each : (x y : ℕ) → x < t.states → y < t.states → T (R x y) → T (fine_b R x y)

  -- the pairs to look at, and the rows that have some: every other pair is fine
  pub record Noted (A : Side) : Type 0 where
    pub cut : Cut t.states A.rows
    pub settled : (x y : ℕ) → x < t.states → y < t.states → T (rel A.rows x y) → T (rel A.again x y) ⊎ T (fine_b (rel A.rows) x y)
    pub listed : (x y : ℕ) → x < t.states → T (rel A.again x y) → T (has A.todo x)
    pub narrow : A.todo < 2 ^ t.states

  -- A, whose converse is B, lies between L and E; L is fine both ways
  pub record Working (E L : ℕ → ℕ → Bool) (A B : Side) : Type 0 where
    pub fine : Fine L
    pub back : Fine (λ x y. L y x)
    pub inside : (x y : ℕ) → x < t.states → y < t.states → T (rel A.rows x y) → T (E x y)
    pub holds : (x y : ℕ) → x < t.states → y < t.states → T (L x y) → T (rel A.rows x y)
    pub turned : (x y : ℕ) → x < t.states → y < t.states → rel B.rows y x ≡ rel A.rows x y
    pub one : Noted A
    pub two : Noted B

  -- what a look at a row does
  pub record Looked (A B A' B' : Side) : Type 0 where
    pub keeps : (E L : ℕ → ℕ → Bool) → Working E L A B → Working E L A' B'
    pub less : (total A' B' < total A B) ⊎ ((total A' B' ≡ total A B) × (B'.todo ≡ B.todo) × (A'.todo < A.todo))

  -- what some looks do
  pub record Settling (A B A' B' : Side) : Type 0 where
    pub keeps : (E L : ℕ → ℕ → Bool) → Working E L A B → Working E L A' B'
    pub less : (total A' B' < total A B) ⊎ ((total A' B' ≡ total A B) × (B'.todo ≡ B.todo))

  -- looks until no row is left
  pub record Settled (A B A' B' : Side) : Type 0 where
    pub looks : Settling A B A' B'
    pub none : A'.todo ≡ 0

-- What the loops over the members of a set keep, and the one over the assignments.
use Rattle.std.specs.Prelude.{◌≡◌, ◌&&◌, List, T, ℕ, ◌≤◌}
use Rattle.words.specs.Sets.{has, built}
use Rattle.words.specs.Passing.{Passing}
use Rattle.meaning.specs.Table.{Table, assignments}
use Rattle.meaning.specs.Reference.Tests.{all_below}
use Rattle.classes.specs.Rows.{rel}
use Rattle.classes.specs.Matching.{matched_on}

-- m is the union of the rows of w's members but for those in `rest`
pub record Joining (w : ℕ) (r : List ℕ) (m rest : ℕ) : Type 0 where
  pub passing : Passing w rest (λ v. (u : ℕ) → T (rel r v u) → T (has m u))
  pub from : (u : ℕ) → T (has m u) → (v : ℕ) × T (has w v) × T (rel r v u)

-- w is the set of the states in `among` whose successors on the assignments below a are matched by those of x
pub record MatchingOn (t : Table) (r : List ℕ) (fail x among w a : ℕ) : Type 0 where
  pub bound : a ≤ assignments t
  pub word : w ≡ built t.states (λ y. has among y && all_below a (matched_on t r fail x y))

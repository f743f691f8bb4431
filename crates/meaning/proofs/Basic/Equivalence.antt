-- Equivalences of a table's states.
use Prim.Native.Nat.{◌<◌, ℕ}
use Rattle.meaning.specs.Table.{Table}

-- an equivalence of the states
pub record Equivalence (t : Table) (E : ℕ → ℕ → Type 0) : Type 0 where
  pub refl : (x : ℕ) → x < t.states → E x x
  pub symm : (x y : ℕ) → x < t.states → y < t.states → E x y → E y x
  pub trans : (x y z : ℕ) → x < t.states → y < t.states → z < t.states → E x y → E y z → E x z

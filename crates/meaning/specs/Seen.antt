-- What each component of an instrument sees of the atoms, and what an atom is worth in a combined state. Answers and theorems about an
-- instrument name these where they speak of atoms. A signal's level, on which steps depend, is `high` whatever an atom may be.
use Rattle.std.specs.Prelude.{◌≢◌, Bool, not, ◌&&◌, T, eqb, length, get_or, ℕ, ◌<◌}
use Rattle.words.specs.Sets.{built}
use Rattle.meaning.specs.Tests.{any_below, listed}
use Rattle.meaning.specs.Atoms.{Atom, on_signal}
use Rattle.meaning.specs.Table.{Table}
use Rattle.meaning.specs.Instrument.{Instrument, components, table}
use Rattle.meaning.specs.Combination.{high}
use Rattle.meaning.specs.View.{View, comparing}

-- an atom's value in a combined state of n tables: a signal is true where it is high
abbrev pub value : ℕ → (ℕ → Table) → Atom → (ℕ → ℕ) → Bool
value n S (on_signal w) s = high n S w s

-- "Outputs which another component lists as an input" (document 02, 3/14): of n tables, one other than table i lists the signal w, whether or
-- not its steps depend on it; the same tested; and those outputs of table i as a set, bit b for its b-th output
module _ (n : ℕ) (S : ℕ → Table) (i : ℕ) where
  abbrev pub ReadByAnother : ℕ → Type 0
  ReadByAnother w = (j : ℕ) × (j < n) × (j ≢ i) × T (listed (S j).inputs w)

  abbrev pub read_elsewhere : ℕ → Bool
  read_elsewhere w = any_below n (λ j. not (eqb j i) && listed (S j).inputs w)

  abbrev pub read_outputs : ℕ
  read_outputs = built (length (S i).outputs) (λ b. read_elsewhere (get_or (S i).outputs b 0))

module _ (I : Instrument) where
  -- the outputs of component i that are compared
  abbrev pub seen : ℕ → ℕ
  seen i = read_outputs (components I) (table I) i

  -- what component i sees
  abbrev pub view_of : ℕ → View Atom
  view_of i = comparing (seen i) (table I i)

  abbrev pub value_of : Atom → (ℕ → ℕ) → Bool
  value_of = value (components I) (table I)

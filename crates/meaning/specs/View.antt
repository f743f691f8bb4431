-- What marks and relation take from outside a table's steps: the part of the outputs that is compared, and what a state says of an atom.
use Rattle.std.specs.Prelude.{Bool, not, ◌&&◌, ◌||◌, ℕ}
use Rattle.std.specs.Bool.{beq}
use Rattle.words.specs.Sets.{intersection}
use Rattle.meaning.specs.Atoms.{Atom, on_signal}
use Rattle.meaning.specs.Table.{Table, owns, drives}

pub record View (A : Type 0) : Type 0 where
  -- what the relation compares of a state's outputs
  pub compared : ℕ → ℕ
  -- PASS and FAIL of an atom, and two states related for it
  pub pass : A → ℕ → Bool
  pub fail : A → ℕ → Bool
  pub related : A → ℕ → ℕ → Bool

-- the same view, but for what is compared
abbrev pub recompared : {A : Type 0} → View A → (ℕ → ℕ) → View A
recompared κ compared = record { compared = compared; pass = κ.pass; fail = κ.fail; related = κ.related }

-- The atoms as a table sees them, where so much of a state's outputs is compared (document 01, Marks and Classes). Of an own signal the states
-- that drive it high are PASS and the rest FAIL, and states that drive it to the same level are related; of a foreign signal no state is
-- marked, and all are related.
module _ (compared : ℕ → ℕ) (t : Table) where
  abbrev atom_pass : Atom → ℕ → Bool
  atom_pass (on_signal w) x = owns t w && drives t x w

  abbrev atom_fail : Atom → ℕ → Bool
  atom_fail (on_signal w) x = owns t w && not (drives t x w)

  abbrev atom_related : Atom → ℕ → ℕ → Bool
  atom_related (on_signal w) x y = not (owns t w) || beq (drives t x w) (drives t y w)

  abbrev pub atoms : View Atom
  atoms = record { compared = compared; pass = atom_pass; fail = atom_fail; related = atom_related }

-- the outputs in a set are compared, bit b for the b-th listed output
abbrev pub comparing : ℕ → Table → View Atom
comparing mask t = atoms (λ x. intersection mask (t.out x)) t

-- the whole output word is compared, as before document 02, 3/14
abbrev pub whole_words : Table → View Atom
whole_words t = atoms t.out t

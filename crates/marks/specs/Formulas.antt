-- PASS and FAIL of a whole formula as words: what the rules make, operand by operand (document 01, Marks).
use Rattle.std.specs.Prelude.{◌≡◌, ℕ}
use Rattle.words.specs.Sets.{built}
use Rattle.meaning.specs.Atoms.{Atom, on_signal}
use Rattle.meaning.specs.Table.{Table}
use Rattle.meaning.specs.Formula.{Formula}
use Rattle.meaning.specs.View.{View, atoms}
use Rattle.meaning.specs.Reference.Marks.{pass_b, fail_b}
use Rattle.mark_rules.specs.declared.Mark.{Mark}

abbrev pub formula_mark : {A : Type 0} → Table → View A → Formula A → Mark
formula_mark t κ φ = record { pass = built t.states (pass_b t κ φ); fail = built t.states (fail_b t κ φ) }

-- a view in which the signals of a table are seen as document 01 says, whatever is compared of the outputs
pub record Sees (t : Table) (κ : View Atom) : Type 0 where
  pub pass : (w x : ℕ) → κ.pass (on_signal w) x ≡ (atoms t.out t).pass (on_signal w) x
  pub fail : (w x : ℕ) → κ.fail (on_signal w) x ≡ (atoms t.out t).fail (on_signal w) x
  pub related : (w x y : ℕ) → κ.related (on_signal w) x y ≡ (atoms t.out t).related (on_signal w) x y

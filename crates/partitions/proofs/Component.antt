-- The class names of one component are those of its relation at the roots.
use mathlib.Core.Path.{◌≡◌, refl, ap, ap₂}
use mathlib.Core.Bool.{Bool, cond}
use mathlib.Core.List.{List}
use native.Mathlib.Omega.{arith}
use Prim.Native.Nat.{ℕ, zero, suc, ◌≤◌, ◌<◌}
use Rattle.meaning.specs.Atoms.{Atom}
use Rattle.meaning.specs.Table.{Table}
use Rattle.meaning.specs.View.{View}
use Rattle.meaning.specs.Formula.{Formula}
use Rattle.meaning.specs.Seen.{view_of}
use Rattle.meaning.specs.Roots.{rel_all_b, root_formulas}
use Rattle.meaning.specs.Instrument as meaning
use Rattle.meaning.specs.Instrument.{Accepted, table}
use Rattle.meaning.specs.File.Grammar.{Contents, instrument_of, limits, most_states}
use Rattle.meaning.specs.Reference.Tests.{lowest}
use Rattle.meaning.proofs.Basic.Bounded.{any_same}
use Rattle.meaning.proofs.File.Accepted.{accepted}
use Rattle.instrument.specs.declared.Node.{Node}
use Rattle.instrument.specs.declared.component.Component.{Component}
use Rattle.instrument.proofs.Components.{component_table}
use Rattle.mark_rules.specs.declared.Mark.{Mark}
use Rattle.classes.specs.Rows.{rel, rows}
use Rattle.class_names.specs.Names.{Inhabited, class_names_of}
use Rattle.classes.proofs.Padded.{padded_same}
use Rattle.classes.proofs.Rows.{rel_rows_lem}
use Rattle.class_names.proofs.Meaning.{inhabited}
use Rattle.meaning.proofs.Roots.{at_equivalence}
use Rattle.relations.specs.Relations.{MarkedComponent, roots_relation}
use Rattle.relations.proofs.Meaning.{relation_decides}
use Rattle.partitions.specs.Classes.{table_classes, component_classes}

-- tests that agree below n have the same lowest number
lowest_same : (n : ℕ) (f g : ℕ → Bool) → ((i : ℕ) → i < n → f i ≡ g i) → lowest n f ≡ lowest n g
lowest_same zero f g h = refl
lowest_same (suc n) f g h =
    ap₂ (λ b z. cond b z n) (any_same n f g (λ i l. h i (omega arith))) (lowest_same n f g (λ i l. h i (omega arith)))

-- the names of the rows at the roots
pub root_names : (t : Table) (κ : View Atom) (ρs : List (Formula Atom)) → t.states ≤ most_states
    → class_names_of (rows t.states (rel_all_b t κ ρs)) t.states ≡ table_classes t κ ρs
unfolding class_names_of table_classes
root_names t κ ρs m =
    padded_same most_states t.states (λ x. lowest t.states (rel (rows t.states related) x)) (λ x. lowest t.states (related x)) m (λ x l.
    lowest_same t.states (rel (rows t.states related) x) (related x) (λ y k. rel_rows_lem t.states related x y m l k))
  where
    related : ℕ → ℕ → Bool
    related = rel_all_b t κ ρs

module _ {r : Component} {nodes : List Node} {marks : List Mark} {read : ℕ} {k : Contents} {c : ℕ} (m : MarkedComponent r nodes marks read k c) where
  abbrev I : meaning.Instrument
  I = instrument_of k

  -- the states of the component are those of its table in the instrument
  states_is : r.table.states ≡ (table I c).states
  states_is = ap (λ t. t.states) (component_table k c r m.is)

  small : (table I c).states ≤ most_states
  small = rw (← states_is) r.table.steps.most_states_lem

  -- each state is related to a state, itself
  pub root_inhabited : (roots rows : List ℕ) → rows ≡ roots_relation I c roots → Inhabited r.table.states rows
  root_inhabited roots rows e =
      rw (e, states_is)
      (inhabited (table I c) small (roots_relation I c roots) (at_equivalence I good roots c m.here) (relation_decides I good roots c m.here small))
    where
      good : Accepted I
      good = accepted limits k m.promised

  pub root_classes_lem : (roots rows : List ℕ) → rows ≡ roots_relation I c roots → class_names_of rows r.table.states ≡ component_classes I roots c
  root_classes_lem roots rows e = rw (e, states_is) (root_names (table I c) (view_of I c) (root_formulas I roots) small)

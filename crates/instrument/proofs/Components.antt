-- A component as it is lent: the parts of an instrument's arrays by its bounds are within the limits, and its table is the instrument's.
use mathlib.Core.Path.{◌≡◌, sym}
use lib.ListN.{length, get_or}
use native.Mathlib.Nat.{mul_comm}
use native.Mathlib.Omega.{arith}
use Prim.Native.Nat.{ℕ, ◌^◌, ◌<◌}
use Rattle.meaning.specs.Instrument.{table}
use Rattle.meaning.specs.File.Grammar.{Contents, instrument_of, limits}
use Rattle.meaning.specs.File.Promise.{PromisedComponent, component_at}
use Rattle.meaning.specs.StepWords.{Steps}
use Rattle.meaning.proofs.File.Accepted.{table_is, promised_at, word_at}
use Rattle.instrument.specs.declared.Instrument.{Instrument}
use Rattle.instrument.specs.declared.ListBounds.{ListBounds}
use Rattle.instrument.specs.declared.component.Component.{Component}
use Rattle.instrument.specs.Described.{Describes}
use Rattle.instrument.specs.Lists.{Lists}
use Rattle.instrument.specs.Component.{IsComponent, reading_table}
use Rattle.instrument.specs.Bounds.{bounds_at, part}
use Rattle.instrument.proofs.Parts.{Parted, parted}
use Rattle.instrument.proofs.Places.{components_is, states_at, inputcounts_at}

module _ (t : Instrument) (k : Contents) (d : Describes t k) (i : ℕ) (l : i < t.components) where
  promised : PromisedComponent limits k.signals (component_at k i)
  promised = promised_at limits k d.promised i (omega (arith, components_is t k d))

  abbrev at : ListBounds
  at = bounds_at t i

  are : Parted at t.nexts t.outs t.outputs (component_at k i)
  are = parted t k d i l

  pub part_steps : Steps (get_or t.states i 0) (get_or t.inputcounts i 0) (part at.nexts at.nextsend t.nexts)
  part_steps =
      rw (are.nexts_are, states_at t k d i, inputcounts_at t k d i)
      (record {
        some = promised.states.0;
        most_states_lem = promised.states.1;
        most_inputs = promised.input_count;
        room = omega (arith, promised.next_count, mul_comm (component_at k i).states (2 ^ length (component_at k i).inputs));
        filled = λ x a h m. (word_at limits k d.promised (component_at k i) promised x a h m).1;
        narrow = λ x a h m. (word_at limits k d.promised (component_at k i) promised x a h m).0;
      })

  pub part_lists : Lists (get_or t.states i 0) (part at.outputs at.outputsend t.outputs) (part at.outs at.outsend t.outs)
  part_lists =
      rw (are.outputs_are, are.outs_are, states_at t k d i)
      (record {
        output_count = promised.output_count;
        ascending = record { each = promised.outputs.ascending };
        out_count = omega (arith, promised.out_count);
      })

-- the table of a lent component
pub component_table : (k : Contents) (c : ℕ) (r : Component) → IsComponent (component_at k c) r
    → reading_table r (component_at k c).inputs ≡ table (instrument_of k) c
component_table k c r e = rw (e.states_are, e.outputs_are, e.outs_are, e.nexts_are) (sym (table_is k c))

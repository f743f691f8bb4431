-- One component of an instrument, as it is lent (document 01, The instrument file).
use Rattle.std.specs.Prelude.{◌≡◌, List, length, ℕ}
use Rattle.meaning.specs.Table as meaning
use Rattle.meaning.specs.Table.{from_words}
use Rattle.meaning.specs.File.Grammar as grammar
use Rattle.instrument.specs.declared.component.Component.{Component}

-- it is this component of a file's contents: its numbers and its lists; of its inputs their number alone is lent
pub record IsComponent (k : grammar.Component) (r : Component) : Type 0 where
  pub states_are : r.table.states ≡ k.states
  pub inputs_are : r.table.inputs ≡ length k.inputs
  pub nexts_are : r.table.succ.now ≡ k.nexts
  pub outs_are : r.outs.now ≡ k.outs
  pub outputs_are : r.outputs.now ≡ k.outputs

-- the table of the component that reads these inputs
abbrev pub reading_table : Component → List ℕ → meaning.Table
reading_table r inputs = from_words r.table.states inputs r.outputs.now r.outs.now r.table.succ.now

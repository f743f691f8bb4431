-- The table that a component's successor sets make, as they are lent (meaning/specs/StepWords).
use Rattle.meaning.specs.StepWords.{step_table}
use Rattle.meaning.specs.Table as meaning
use Rattle.instrument.specs.declared.table.Table.{Table}

abbrev pub table_of : Table → meaning.Table
table_of t = step_table t.states t.inputs t.succ.now

use Rattle.instrument.specs.Table.{table_of}
use Rattle.classes.specs.Loops.{MatchingOn}
use Rattle.classes.proofs.matching.matched_row.Given as goal

abbrev pub invariant-loop-a : goal.invariant-loop-a
invariant-loop-a l =
    MatchingOn (table_of l.table) l.r l.fail l.x l.among l.result l.a

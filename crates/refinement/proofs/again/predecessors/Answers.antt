use Rattle.std.proofs.Common.{◌∙◌, rules}
use Rattle.instrument.specs.Table.{table_of}
use Rattle.classes.specs.Rows.{rows}
use Rattle.classes.specs.Matching.{conversed}
use Rattle.refinement.specs.Again as again
use Rattle.classes.proofs.Filled.{filled_is}
use Rattle.classes.proofs.Rows.{rel_rows_lem, rows_same}
use Rattle.refinement.proofs.again.predecessors.Goals as goal

pub returns : goal.returns
unfolding again.predecessor_rows conversed rows
returns c =
    let m = c.args.table.steps.most_states_lem in
    c.converse.ensures
    ∙ rw (filled_is c.rows-after.ensures m {f = again.after_any (table_of c.args.table)} (λ x w l p. search rules))
    (rows_same _ _ _ m (λ v x i j. rel_rows_lem _ _ x v m j i))

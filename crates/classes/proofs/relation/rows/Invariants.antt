use Rattle.classes.specs.Rows.{RowsOf}
use Rattle.classes.proofs.relation.rows.Given as goal

abbrev pub invariant-loop-x : goal.invariant-loop-x
invariant-loop-x g l = RowsOf (λ x w. goal.F-post g l.row x w) l.x l.result

use Rattle.std.proofs.Common.{◌≡◌, ◌∙◌, rules, ◌&&◌, get_or}
use Rattle.words.specs.Sets.{intersection, built, has}
use Rattle.words.proofs.Members.{below_lt}
use Rattle.instrument.specs.Table.{table_of}
use Rattle.classes.specs.Matching as matching
use Rattle.classes.specs.Rows.{rows}
use Rattle.classes.proofs.Row.{cut_test}
use Rattle.classes.proofs.Filled.{filled_is}
use Rattle.classes.proofs.matching.matched_rows.Goals as goal

pub rows-requires-clause-callable : goal.rows-requires-clause-callable
rows-requires-clause-callable c = λ x l. (l, rw c.below-all.ensures (below_lt _))

pub returns : goal.returns
unfolding matching.matched_rows rows
returns c = filled_is c.rows.ensures c.args.table.steps.most_states_lem (λ x w l p.
    let e : w ≡ built c.args.table.states (λ y. has (intersection c.below-all.result (get_or c.args.r.now x 0)) y
    && matching.matched_by (table_of c.args.table) c.args.r.now c.args.fail x y) = search rules in
    e ∙ rw c.below-all.ensures (cut_test _ _ _))

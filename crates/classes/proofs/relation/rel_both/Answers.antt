use Rattle.std.proofs.Common.{◌≡◌, ◌∙◌, get_or, rules}
use Rattle.words.specs.Sets.{intersection}
use Rattle.classes.specs.Related as related
use Rattle.classes.specs.Rows.{rows}
use Rattle.classes.proofs.Row.{both_row}
use Rattle.classes.proofs.Filled.{filled_is}
use Rattle.classes.proofs.relation.rel_both.Goals as goal

pub returns : goal.returns
unfolding related.related_both rows
returns c = filled_is c.rows.ensures c.requires (λ x w l p.
    let e : w ≡ intersection c.below-all.result (intersection (get_or c.args.a.now x 0) (get_or c.args.b.now x 0)) = search rules in
    e ∙ rw c.below-all.ensures (both_row _ _ _))

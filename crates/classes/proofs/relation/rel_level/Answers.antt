use Rattle.std.proofs.Common.{◌≡◌, refl, cond, get_or, rules}
use Rattle.words.specs.Sets.{has}
use Rattle.loops.proofs.Building.{building_start, building_more, building_end}
use Rattle.classes.specs.Related as related
use Rattle.classes.specs.Rows.{rows}
use Rattle.classes.proofs.Row.{level_row}
use Rattle.classes.proofs.Filled.{filled_is}
use Rattle.classes.proofs.relation.rel_level.Goals as goal

pub loop-y-init : goal.loop-y-init
loop-y-init c = building_start

pub loop-y-preserved : goal.loop-y-preserved
loop-y-preserved c = building_more c.loop-y.invariant c.loop-y-test.true c.put-high.ensures c.member.ensures

pub returns : goal.returns
unfolding related.related_level rows
returns c = filled_is c.rows.ensures c.requires.0 (λ x w l p.
    let e : w ≡ cond (has (get_or c.args.outs.now x 0) c.args.j) c.loop-y.high c.complement-low.result = search rules in
    level_row c.args.outs.now c.args.states c.args.j x (building_end c.loop-y.invariant c.loop-y-test.false) c.complement-low.ensures refl e)

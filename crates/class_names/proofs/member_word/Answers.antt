use Rattle.std.proofs.Common.{refl}
use Rattle.class_names.specs.Names as names
use Rattle.loops.proofs.Building.{building_start, building_more, building_end}
use Rattle.class_names.proofs.member_word.Goals as goal

pub loop-x-init : goal.loop-x-init
loop-x-init c = building_start

pub loop-x-preserved : goal.loop-x-preserved
loop-x-preserved c = building_more c.loop-x.invariant c.loop-x-test.true c.put-result.ensures refl

pub returns : goal.returns
unfolding names.member_word
returns c = building_end c.loop-x.invariant c.loop-x-test.false

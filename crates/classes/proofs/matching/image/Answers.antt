use Rattle.std.proofs.Common.{◌∙◌}
use Rattle.state_words.specs.Width.{state_bits}
use Rattle.classes.proofs.Members.{joining_start, joining_more, joining_end}
use Rattle.classes.proofs.matching.image.Goals as goal

pub loop-v-init : goal.loop-v-init
loop-v-init c = rw (c.into_iter-v-iterator.ensures.into_iter_gives, c.members-v-items.ensures) (joining_start _ _)

pub loop-v-preserved : goal.loop-v-preserved
loop-v-preserved c =
    let s = c.in-Some.ensures.steps in
    joining_more state_bits c.loop-v.invariant c.ranges.w.fits s.0 (c.union-result.ensures ∙ rw s.2) s.3

pub returns : goal.returns
returns c =
    c.intersection.ensures ∙ rw c.below.ensures (joining_end _ c.requires.1 (rw c.in-None.ensures.steps.0 at c.loop-v.invariant))

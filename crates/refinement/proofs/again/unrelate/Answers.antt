use Rattle.std.proofs.Common.{◌∙◌}
use Rattle.state_words.specs.Width.{state_bits}
use Rattle.classes.proofs.Changed.{changing_more, changing_end}
use Rattle.refinement.proofs.again.unrelate.Goals as goal

pub loop-y-preserved : goal.loop-y-preserved
loop-y-preserved c =
    let (long, changing) = c.loop-y.invariant in
    let s = c.in-Some.ensures.steps in
    (long, rw s.2 (changing_more state_bits changing long c.ranges.places.fits s.0 (c.without.ensures ∙ rw s.2) s.3))

pub returns : goal.returns
returns c = changing_end (rw c.in-None.ensures.steps.0 at c.loop-y.invariant.1)

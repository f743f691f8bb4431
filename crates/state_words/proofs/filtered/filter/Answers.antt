use Rattle.std.proofs.Common.{◌∙◌}
use Rattle.words.proofs.Passing.{passing_next}
use Rattle.words.proofs.Filtered.{filtering_start, filtering_in, filtering_out, filtering_end}
use Rattle.state_words.specs.Width.{state_bits}
use Rattle.state_words.proofs.filtered.filter.Goals as goal

pub loop-y-init : goal.loop-y-init
loop-y-init g c = rw (c.into_iter-y-iterator.ensures.into_iter_gives, c.members-y-items.ensures) (filtering_start _ _)

pub test-requires : goal.test-requires
test-requires g c =
    let s = c.in-Some.ensures.steps in
    c.requires _ (rw s.2 (passing_next state_bits c.loop-y.invariant.passing c.ranges.w.fits s.0))

pub loop-y-preserved-then-not-test : goal.loop-y-preserved-then-not-test
loop-y-preserved-then-not-test g c =
    let s = c.in-Some.ensures.steps in
    filtering_out state_bits c.loop-y.invariant c.ranges.w.fits s.0 s.3 (rw (← s.2) c.if-not-test.ensures) (c.without-result.ensures ∙ rw s.2)

pub loop-y-preserved : goal.loop-y-preserved
loop-y-preserved g c =
    let s = c.in-Some.ensures.steps in
    filtering_in state_bits c.loop-y.invariant c.ranges.w.fits s.0 s.3 (rw (← s.2) c.if-not-test.ensures)

pub returns : goal.returns
returns g c = filtering_end (rw c.in-None.ensures.steps.0 at c.loop-y.invariant)

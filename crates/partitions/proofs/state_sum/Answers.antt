use Rattle.std.proofs.Common.{◌≡◌, arith, get_or, take, length, List, ℕ, ◌<◌}
use Rattle.std.proofs.lemmas.List.{get_or-take, length-take, length-take-le}
use Rattle.instrument.specs.Delivered.{delivered}
use Rattle.instrument.proofs.Bounds.{count_bounds, states_bounds}
use Rattle.instrument.proofs.Places.{states_length}
use Rattle.partitions.proofs.Summing.{summing_start, summing_more, summing_end}
use Rattle.partitions.proofs.state_sum.Goals as goal

-- the first of the counts
at : (n : ℕ) (states : List ℕ) (i : ℕ) → i < length (take n states) → get_or (take n states) i 0 ≡ get_or states i 0
at n states i h = get_or-take n states i 0 (omega (arith, length-take n states))

pub loop-states-init : goal.loop-states-init
loop-states-init c = summing_start (delivered c.args.t)

pub overflow_add-sum : goal.overflow_add-sum
overflow_add-sum c =
    let (k, d) = c.args.t.described in
    rw (at c.args.t.outline.now.components c.args.t.outline.now.states c.loop-states.states-index c.loop-states-test.true)
    (omega (
      arith,
      c.loop-states.invariant.few,
      c.loop-states.invariant.reached,
      (count_bounds (delivered c.args.t) k d).1,
      (states_bounds (delivered c.args.t) k d c.loop-states.states-index (omega (arith, c.loop-states-test.true, length-take c.args.t.outline.now.components c.args.t.outline.now.states))).1,
    ))

pub loop-states-preserved : goal.loop-states-preserved
loop-states-preserved c =
    let (k, d) = c.args.t.described in
    rw (at c.args.t.outline.now.components c.args.t.outline.now.states c.loop-states.states-index c.loop-states-test.true)
    (summing_more (delivered c.args.t) k d c.loop-states.states-index c.loop-states.sum (omega (arith, c.loop-states-test.true, length-take c.args.t.outline.now.components c.args.t.outline.now.states)) c.loop-states.invariant)

pub returns : goal.returns
returns c =
    let (k, d) = c.args.t.described in
    let t = delivered c.args.t in
    let all : length (take c.args.t.outline.now.components c.args.t.outline.now.states) ≡ c.args.t.outline.now.components =
    length-take-le c.args.t.outline.now.components c.args.t.outline.now.states (omega (arith, (count_bounds t k d).1, states_length t k d)) in
    summing_end (delivered c.args.t) c.loop-states.states-index c.loop-states.sum (omega (arith, c.loop-states.invariant.reached, c.loop-states-test.false)) c.loop-states.invariant

use Rattle.std.proofs.Common.{arith, ◌<◌}
use Rattle.words.proofs.Members.{has_lt}
use Rattle.refinement.proofs.Looks.{settling_start, settling_more, looked_falls}
use Rattle.refinement.proofs.side.Side.settle.Goals as goal

pub loop-self-init : goal.loop-self-init
loop-self-init c = (omega arith, settling_start)

pub next_row-x-requires : goal.next_row-x-requires
next_row-x-requires c = (omega arith, c.loop-self.invariant.0)

pub look-requires : goal.look-requires
look-requires c = (let w = c.requires in has_lt _ _ _ (c.loop-self.invariant.1.keeps w.0 w.1 w.2).one.narrow c.next_row-x.ensures, c.next_row-x.ensures)

pub loop-self-smaller : goal.loop-self-smaller
loop-self-smaller c =
    let w = c.requires in
    looked_falls c.look.ensures (c.look.ensures.keeps _ _ (c.loop-self.invariant.1.keeps w.0 w.1 w.2)).one.narrow

pub loop-self-preserved : goal.loop-self-preserved
loop-self-preserved c =
    let w = c.requires in
    let row : c.next_row-x.result < c.args.on.table.states = has_lt _ _ _ (c.loop-self.invariant.1.keeps w.0 w.1 w.2).one.narrow c.next_row-x.ensures in
    (omega (arith, row, c.args.on.table.steps.most_states_lem), settling_more c.loop-self.invariant.1 c.look.ensures)

pub returns : goal.returns
returns c = record { looks = c.loop-self.invariant.1; none = c.loop-self-test.false }

use Rattle.refinement.proofs.Fixed.{working_start, settled_end}
use Rattle.refinement.proofs.RowLook.{working_turned}
use Rattle.refinement.proofs.Looks.{turn_falls}
use Rattle.refinement.proofs.rel_fixed.Goals as goal

pub loop-two-init : goal.loop-two-init
loop-two-init c =
    working_start _ _ _ _ c.args.table.steps.most_states_lem c.rel_all-all.ensures c.ruled-rows.ensures c.converse-turned.ensures
    c.below-every.ensures

pub settle-requires : goal.settle-requires
settle-requires c = (_, _, c.loop-two.invariant)

pub returns-then-two-eq0 : goal.returns-then-two-eq0
returns-then-two-eq0 c =
    let k = c.settle.ensures in
    settled_end _ _ _ _ c.args.table.steps.most_states_lem (k.looks.keeps _ _ c.loop-two.invariant) k.none c.if-two-eq0.true

pub settle-requires-in-loop-two : goal.settle-requires-in-loop-two
settle-requires-in-loop-two c = (_, _, working_turned _ _ (c.settle.ensures.looks.keeps _ _ c.loop-two.invariant))

pub loop-two-smaller : goal.loop-two-smaller
loop-two-smaller c =
    let k = c.settle.ensures in
    let h = c.settle-in-loop-two.ensures in
    turn_falls k h c.if-two-eq0.false (h.looks.keeps _ _ (working_turned _ _ (k.looks.keeps _ _ c.loop-two.invariant))).two.narrow

pub loop-two-preserved : goal.loop-two-preserved
loop-two-preserved c =
    let k = c.settle.ensures.looks in
    let h = c.settle-in-loop-two.ensures.looks in
    working_turned _ _ (h.keeps _ _ (working_turned _ _ (k.keeps _ _ c.loop-two.invariant)))

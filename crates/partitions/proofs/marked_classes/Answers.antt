use Rattle.std.proofs.Common.{arith}
use Rattle.compared.proofs.Seen.{signals_read}
use Rattle.marks.proofs.Parts.{listing}
use Rattle.partitions.proofs.Naming.{needed_of, marked_row, naming_start, naming_more, naming_end}
use Rattle.partitions.proofs.marked_classes.Goals as goal

pub under_roots-needed-requires : goal.under_roots-needed-requires
under_roots-needed-requires c =
    let ((k, m), good) = c.requires in
    (good, (k.nodes, listing _ k m.describes))

pub inputs_of-requires : goal.inputs_of-requires
inputs_of-requires c =
    let ((k, m), good) = c.requires in
    (_, k, m.describes)

pub loop-c-init : goal.loop-c-init
loop-c-init c = naming_start _ _ _ _

pub component-component-requires : goal.component-component-requires
component-component-requires c = omega (arith, c.loop-c-test.true)

pub component_classes-requires : goal.component_classes-requires
component_classes-requires c =
    let i = c.inputs_of.ensures in
    let ((k, m), good) = c.requires in
    let listed = listing _ k m.describes in
    let read = signals_read _ k m.describes _ (λ w. rw (i.list, i.counts, i.components) at (c.all-read.ensures w)) in
    (k, c.loop-c.c, marked_row _ _ _ k m read _ c.loop-c-test.true _ (c.component-component.ensures k m.describes), needed_of listed good (c.under_roots-needed.ensures k.nodes listed))

pub loop-c-preserved : goal.loop-c-preserved
loop-c-preserved c =
    naming_more _ _ _ _ c.loop-c.c c.loop-c.names _ c.loop-c-test.true
    (λ k m read.
    let listed = listing _ k m.describes in
    c.component_classes.ensures k c.loop-c.c (marked_row _ _ _ k m read _ c.loop-c-test.true _ (c.component-component.ensures k m.describes))
    (needed_of listed c.requires.1 (c.under_roots-needed.ensures k.nodes listed)))
    c.loop-c.invariant

pub returns : goal.returns
returns c =
    let i = c.inputs_of.ensures in
    λ k m.
    naming_end _ _ _ _ c.loop-c.c c.loop-c.names (omega (arith, c.loop-c-test.false, c.loop-c.invariant.reached)) c.loop-c.invariant k m
    (signals_read _ k m.describes _ (λ w. rw (i.list, i.counts, i.components) at (c.all-read.ensures w)))

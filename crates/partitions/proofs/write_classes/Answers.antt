use Rattle.std.proofs.Common.{ap, ◌∙◌, List, [], length, get_or, arith, rules, ℕ, ◌+◌, ◌-◌, ◌≤◌}
use lib.ListN.{length-take, length-drop}
use borrow.Rule.Slice.PartMut.{put_mid}
use Rattle.meaning.proofs.Basic.Entries.{list_length}
use Rattle.loops.proofs.Parts.{part_copied}
use Rattle.instrument.specs.Delivered.{delivered}
use Rattle.instrument.specs.Roots.{listed_roots}
use Rattle.instrument.proofs.Bounds.{states_bounds}
use Rattle.partitions.specs.Progress.{names_in}
use Rattle.partitions.proofs.Entries.{writing_start, writing_more, writing_room, writing_end, names_taken, names_written}
use Rattle.partitions.proofs.write_classes.Goals as goal

pub loop-c-init : goal.loop-c-init
loop-c-init c = writing_start _ _ _ _

pub slice_bounds-copy_from_slice-end : goal.slice_bounds-copy_from_slice-end
slice_bounds-copy_from_slice-end c =
    let room : c.loop-c.place + get_or c.args.t.outline.now.states c.loop-c.c 0 ≤ length c.loop-c.out =
    writing_room _ _ _ _ c.loop-c.c c.loop-c.place _ c.loop-c-test.true c.requires.1 c.loop-c.invariant in
    search rules

pub shared_ref_as_front-copy_from_slice : goal.shared_ref_as_front-copy_from_slice
shared_ref_as_front-copy_from_slice c =
    (states_bounds (delivered c.args.t) c.args.t.described.0 c.args.t.described.1 c.loop-c.c c.loop-c-test.true).1

pub overflow_add-place : goal.overflow_add-place
overflow_add-place c =
    omega (
      arith,
      writing_room _ _ _ _ c.loop-c.c c.loop-c.place _
          c.loop-c-test.true c.requires.1 c.loop-c.invariant,
    )

pub loop-c-preserved : goal.loop-c-preserved
loop-c-preserved c =
    let states : ℕ = get_or c.args.t.outline.now.states c.loop-c.c 0 in
    let row : List ℕ = get_or c.all_classes-names.result c.loop-c.c [] in
    let from = c.loop-c.place in
    let room : from + states ≤ length c.loop-c.out =
    writing_room _ _ _ _ c.loop-c.c from _ c.loop-c-test.true c.requires.1 c.loop-c.invariant in
    writing_more _ _ _ _ c.loop-c.c from _ _ c.loop-c-test.true
    (ap (put_mid from (from + states - from) c.loop-c.out)
    (c.copy_from_slice.ensures.after
    ∙ names_taken row states (omega (arith, ap length c.copy_from_slice.ensures.after, c.copy_from_slice.ensures.len, length-take {A = ℕ}, length-drop {A = ℕ})))
    ∙ part_copied from (from + states - from) c.loop-c.out (names_in row states) (omega (arith, list_length states (λ x. get_or row x 0))) (omega arith))
    c.loop-c.invariant

pub returns : goal.returns
returns c =
    λ k d.
    writing_end _ _ _ _ c.loop-c.c c.loop-c.place _ (omega arith) c.loop-c.invariant
    ∙ names_written (delivered c.args.t) k d (listed_roots c.args.roots) _ (c.all_classes-names.ensures k d) _ c.requires.1

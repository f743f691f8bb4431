use Rattle.std.proofs.Common.{refl, sym, ◌∙◌, arith, ◌-◌}
use Rattle.marks.proofs.NodeMarks.{operands_listed}
use Rattle.subformulas.proofs.Root.{good_below, good_each, root_start, root_in, root_out, root_end}
use Rattle.subformulas.proofs.under_roots.Goals as goal

-- the nodes have their places in the array
pub root_set-set-requires : goal.root_set-set-requires
root_set-set-requires c =
    let l = c.requires.1.1 in
    good_below c.requires.0 (omega (arith, l.long, l.room))

pub loop-k-init : goal.loop-k-init
loop-k-init c = (c.root_set-set.type_inv, λ ns e rs b z. rw z (root_start _ _ ns e rs b))

pub offset_bounds-nodes-k : goal.offset_bounds-nodes-k
offset_bounds-nodes-k c = let l = c.requires.1.1 in omega (arith, l.long, l.room)

pub bounds-nodes-k : goal.bounds-nodes-k
bounds-nodes-k c = let l = c.requires.1.1 in omega (arith, c.loop-k-test.true, l.long, l.room)

pub member-requires : goal.member-requires
member-requires c = let l = c.requires.1.1 in omega (arith, c.loop-k-test.true, l.long, l.room)

pub with_operands-set-requires : goal.with_operands-set-requires
with_operands-set-requires c =
    let (ns, listed) = c.requires.1 in
    operands_listed _ _ ns listed (c.loop-k.k - 1) (omega (arith, c.loop-k-test.true))

pub loop-k-preserved-then-member : goal.loop-k-preserved-then-member
loop-k-preserved-then-member c = (
  c.with_operands-set.type_inv,
  λ ns e rs b z. root_in _ _ ns e rs b c.loop-k.k c.loop-k.set (omega (arith, c.loop-k-test.true)) (c.loop-k.invariant.1 ns e rs b z) _
      c.with_operands-set.result refl c.with_operands-set.ensures (sym (sym c.member.ensures ∙ c.if-member.true)),
)

pub loop-k-preserved : goal.loop-k-preserved
loop-k-preserved c = (
  c.loop-k.invariant.0,
  λ ns e rs b z. root_out _ _ ns e rs b c.loop-k.k c.loop-k.set (omega (arith, c.loop-k-test.true)) (c.loop-k.invariant.1 ns e rs b z)
      (sym (sym c.member.ensures ∙ c.if-member.false)),
)

pub returns : goal.returns
returns c =
    λ ns e.
    let b = good_each _ _ c.requires.0 in
    root_end _ _ ns e _ b c.loop-k.k c.loop-k.set (omega (arith, c.loop-k-test.false)) c.loop-k.invariant.0
    (c.loop-k.invariant.1 ns e _ b c.root_set-set.ensures)

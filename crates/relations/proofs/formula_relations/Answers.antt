use Rattle.std.proofs.Common.{sym, ◌∙◌, arith}
use Rattle.relations.proofs.NodeRelations.{relating_start, relating_in, relating_out, relating_end}
use Rattle.relations.proofs.formula_relations.Goals as goal
use Rattle.relations.proofs.formula_relations.Goals.{then-member, else-member}

pub loop-k-init : goal.loop-k-init
loop-k-init c = relating_start _ _ _ _ _

pub bounds-marks-left : goal.bounds-marks-left
bounds-marks-left c = c.place-left.ensures.0

pub bounds-relations-left : goal.bounds-relations-left
bounds-relations-left c = c.place-left.ensures.0

pub bounds-relations-right : goal.bounds-relations-right
bounds-relations-right c = c.place-right.ensures.0

pub loop-k-preserved : goal.loop-k-preserved
loop-k-preserved c =
    elim c.if-member.branch [
      | then-member w ↦
          rw w.relations-is
          (relating_in _ _ _ _ _ c.args.component.table.steps.most_states_lem c.loop-k.k c.loop-k.relations _ (omega arith)
          (sym w.if-member.true ∙ c.member.ensures) w.place-left.result w.place-right.result w.place-left.ensures.1 w.place-right.ensures.1
          (w.node_relation.ensures _) c.loop-k.invariant)
      | else-member w ↦
          rw w.relations-is
          (relating_out _ _ _ _ _ c.loop-k.k c.loop-k.relations (omega arith) (sym w.if-member.false ∙ c.member.ensures) c.loop-k.invariant)
    ]

pub returns : goal.returns
returns c = relating_end _ _ _ _ _ c.loop-k.k c.loop-k.relations (omega arith) c.loop-k.invariant

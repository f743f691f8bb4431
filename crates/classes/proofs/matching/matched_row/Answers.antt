use Rattle.std.proofs.Common.{◌∙◌, arith}
use Rattle.classes.proofs.Matched.{matching_start, matching_more, matching_narrow, matching_end, matching_none}
use Rattle.classes.proofs.Component.{within}
use Rattle.classes.proofs.matching.matched_row.Goals as goal

pub loop-a-init : goal.loop-a-init
loop-a-init c = matching_start _ _ _ _ _ _ _ c.requires.1

pub returns-then-result-eq0 : goal.returns-then-result-eq0
returns-then-result-eq0 c = matching_none _ _ _ _ _ _ c.loop-a.invariant c.if-result-eq0.true

pub successors-requires : goal.successors-requires
successors-requires c = within c.args.table.steps _ _ c.requires.0 (omega arith)

pub image-m-requires : goal.image-m-requires
image-m-requires c =
    let p = c.args.table.steps in
    (p.most_states_lem, rw c.successors.ensures (p.narrow _ _ c.requires.0 (omega arith)))

pub covered-result-requires : goal.covered-result-requires
covered-result-requires c = (omega arith, matching_narrow _ _ _ _ _ _ c.loop-a.invariant)

pub loop-a-preserved : goal.loop-a-preserved
loop-a-preserved c =
    matching_more _ _ _ _ _ _ c.loop-a.invariant (omega arith) (c.image-m.ensures ∙ rw c.successors.ensures)
    (c.covered-result.ensures ∙ rw c.complement-live.ensures)

pub returns : goal.returns
returns c = matching_end _ _ _ _ _ _ c.loop-a.invariant (omega arith)

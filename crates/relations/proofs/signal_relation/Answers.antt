use Rattle.std.proofs.Common.{◌∙◌, arith}
use Rattle.relations.proofs.Signals.{signal_level, signal_all}
use Rattle.relations.proofs.signal_relation.Goals as goal

pub rel_level-requires : goal.rel_level-requires
rel_level-requires c =
    let r = c.args.component in
    (r.table.steps.most_states_lem, r.lists.out_count, omega (arith, c.in-Some.ensures.placed, r.lists.output_count))

pub returns-in-Some : goal.returns-in-Some
returns-in-Some c =
    let r = c.args.component in
    c.rel_level.ensures ∙ signal_level _ _ _ _ r.table.steps.most_states_lem r.lists.ascending _ c.in-Some.ensures

pub returns-in-None : goal.returns-in-None
returns-in-None c = c.rel_all.ensures ∙ signal_all _ _ _ _ c.args.component.table.steps.most_states_lem c.in-None.ensures

use Rattle.classes.proofs.Ruled.{ruled_ex}
use Rattle.classes.proofs.rule.rel_ex.Goals as goal

pub returns : goal.returns
returns c =
    ruled_ex _ _ c.args.table.steps.most_states_lem _ _ _ c.matched_rows-back.ensures c.converse-opposite.ensures c.matched_rows-columns.ensures
    c.converse-forth.ensures c.ruled.ensures

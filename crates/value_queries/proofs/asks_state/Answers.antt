use Rattle.std.proofs.Common.{◌∙◌}
use Rattle.value_queries.proofs.Telling.{four_tests, inside, inside_by}
use Rattle.instrument.specs.Delivered.{delivered}
use Rattle.value_queries.proofs.asks_state.Goals as goal

pub returns : goal.returns
returns c =
    λ k d.
    let same = inside_by (delivered c.args.t) k d c.args.states in
    four_tests (inside (delivered c.args.t) k d c.args.states) _ _ _ _ (c.in_component-a.ensures ∙ same 0) (c.in_component-b.ensures ∙ same 1)
    (c.in_component-c.ensures ∙ same 2) (c.in_component-d.ensures ∙ same 3)

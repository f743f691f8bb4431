use Rattle.std.proofs.Common.{◌∙◌, refl, rules, tests, arith}
use Rattle.std.proofs.lemmas.Iterator.{YieldsList-from_range}
use Rattle.std.proofs.lemmas.Iterator.Search.{any_from_yields_List}
use Rattle.start_marks.specs.Starts.{in_set}
use Rattle.start_marks.proofs.Ranged.{range_any}
use Rattle.start_marks.proofs.start_marked.Goals as goal

pub returns : goal.returns
returns c =
    any_from_yields_List (in_set c.args.sets c.args.states) _ _ c.any.result c.any.ensures.ran (YieldsList-from_range 0 c.args.n c.args.n refl (omega arith))
    (λ x b q k. search (rules, tests))
    ∙ range_any c.args.n (in_set c.args.sets c.args.states)

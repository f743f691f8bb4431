use Rattle.std.proofs.Common.{rules, get_or, ◌+◌, ◌*◌}
use Rattle.start_marks.proofs.Made.{made_list}
use Rattle.start_marks.proofs.start_states.Goals as goal

pub returns : goal.returns
returns c =
    made_list (λ i. get_or c.args.starts.now (4 * c.args.j + i) 0) (λ i y q r. (search rules, search rules)) c.from_fn.ensures.items

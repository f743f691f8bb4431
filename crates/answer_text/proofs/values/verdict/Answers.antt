use Rattle.std.proofs.Common.{ap, ◌∙◌}
use Rattle.std.proofs.lemmas.Result.{err_from_is_err_and}
use Rattle.answers.specs.Lines.{judgement_line}
use Rattle.answers.specs.Printed.{printed}
use Rattle.answer_text.proofs.Outcomes.{put_first}
use Rattle.answer_text.proofs.values.verdict.Goals as goal

pub returns-in_err-judgement : goal.returns-in_err-judgement
unfolding printed
returns-in_err-judgement c =
    let p = err_from_is_err_and c.from_residual.result c.from_residual.ensures.1 in
    rw (p.1, p.2) (c.requires, ap judgement_line c.in_err-judgement.ensures.answer)

pub returns : goal.returns
unfolding printed
returns c =
    put_first _ c.requires c.word.ensures ∙ c.as_slice.ensures.value ∙ c.verdict_line.ensures ∙ ap judgement_line c.in_ok-judgement.ensures.answer

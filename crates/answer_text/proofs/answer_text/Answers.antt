use Rattle.std.proofs.Common.{ap, ◌∙◌}
use Rattle.answers.specs.Printed.{printed}
use Rattle.answer_text.proofs.Outcomes.{put_first}
use Rattle.answer_text.proofs.Settled.{settled}
use Rattle.answer_text.proofs.answer_text.Goals as goal

pub returns-in-Ok-clause-longer : goal.returns-in-Ok-clause-longer
returns-in-Ok-clause-longer c = settled _ _ _ (c.in-Ok.ensures ∙ ap (λ q. printed q c.args.file.now) c.question_of.ensures.answer)

pub returns-in-Err-clause-longer : goal.returns-in-Err-clause-longer
returns-in-Err-clause-longer c =
    settled _ _ _
    (put_first _ c.in-Err.ensures.0 c.word.ensures ∙ c.as_slice.ensures.value ∙ c.refusal_line.ensures.answer ∙ c.in-Err.ensures.1
    ∙ ap (λ q. printed q c.args.file.now) c.question_of.ensures.answer)

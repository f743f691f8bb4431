use Rattle.answers.specs.Printed.{usage_line}
use Rattle.answer_text.proofs.Outcomes.{put_first}
use Rattle.answer_text.proofs.values.usage.Goals as goal

pub returns : goal.returns
unfolding usage_line
returns c = put_first _ c.requires c.word.ensures

use Rattle.std.proofs.Common.{sym, ap, ◌∙◌}
use Rattle.answers.specs.Printed.{printed}
use Rattle.arguments.specs.Asked.{asks}
use Rattle.answer_text.proofs.question_text.Goals as goal

pub returns-in-Unknown : goal.returns-in-Unknown
unfolding printed
returns-in-Unknown c = c.usage.ensures ∙ ap (λ q. printed (asks q) c.args.file.now) (sym c.in-Unknown.is)

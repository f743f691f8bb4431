use Rattle.std.proofs.Common.{sym, ap, ◌∙◌}
use Rattle.pinthar.specs.Numbers.{verdict_code}
use Rattle.pinthar.proofs.Codes.{judged_code, judged_same}
use Rattle.pinthar.proofs.told.pinthar_verdict.Goals as goal

pub returns : goal.returns
returns c =
    let a = c.verdict in
    let e = c.of_answer.ensures ∙ judged_code a.result in
    record { answer = e ∙ ap verdict_code a.ensures.answer; meaning = λ v z. a.ensures.meaning v (judged_same a.result v (sym e ∙ z)) }

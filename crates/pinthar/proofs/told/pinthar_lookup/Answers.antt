use Rattle.std.proofs.Common.{sym, ap, ◌∙◌}
use Rattle.pinthar.specs.Numbers.{lookup_code}
use Rattle.pinthar.proofs.Codes.{looked_code, looked_same}
use Rattle.pinthar.proofs.told.pinthar_lookup.Goals as goal

pub returns : goal.returns
returns c =
    let a = c.lookup in
    let e = c.of_answer.ensures ∙ looked_code a.result in
    record { answer = e ∙ ap lookup_code a.ensures.answer; meaning = λ v z. a.ensures.meaning v (looked_same a.result v (sym e ∙ z)) }

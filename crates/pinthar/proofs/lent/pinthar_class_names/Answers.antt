use Rattle.pinthar.proofs.Codes.{both}
use Rattle.pinthar.proofs.lent.pinthar_class_names.Goals as goal

pub returns : goal.returns
returns c =
    let w = c.class_names.ensures in
    let b = both w.answer w.meaning c.of_answer.ensures in
    record { answer = b.0; meaning = b.1 }

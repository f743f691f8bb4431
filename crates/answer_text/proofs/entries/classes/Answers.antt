use Rattle.std.proofs.Common.{◌∙◌}
use Rattle.std.proofs.lemmas.Result.{err_from_is_err_and}
use Rattle.answer_text.proofs.Readings.{classes_refused, classes_given}
use Rattle.answer_text.proofs.entries.classes.Goals as goal

pub returns-in_err-outline : goal.returns-in_err-outline
returns-in_err-outline c =
    let p = err_from_is_err_and c.from_residual.result c.from_residual.ensures.1 in
    rw (p.1, p.2) (c.requires, classes_refused c.args.file.now _ c.in_err-outline.ensures.tells)

pub invariant_of-t : goal.invariant_of-t
invariant_of-t c = let h = c.in_ok-outline.ensures.found in record { described = (h.contents, h.describes) }

pub returns : goal.returns
returns c =
    let h = c.in_ok-outline.ensures.found in
    c.instrument_classes.ensures h.contents h.describes ∙ classes_given _ h.contents h.end h.read

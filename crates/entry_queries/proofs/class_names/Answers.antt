use Rattle.std.proofs.Common.{length}
use Rattle.std.proofs.lemmas.Result.{err_from_is_err_and}
use Rattle.meaning.specs.File.Grammar.{instrument_of}
use Rattle.meaning.specs.Reference.Answers.{class_names_of}
use Rattle.answers.specs.Buffers.{fitting}
use Rattle.answers.specs.Outcomes.{class_outcome}
use Rattle.answers.specs.Means.{ClassesMean}
use Rattle.answers.proofs.Means.{class_means}
use Rattle.entry_queries.proofs.Answering.{number_some, refused_answered, file_answered, fitting_entries, means}
use Rattle.entry_queries.proofs.class_names.Goals as goal

pub invariant_of-t : goal.invariant_of-t
invariant_of-t c = let h = c.in_ok-outline.ensures.found in record { described = (h.contents, h.describes) }

pub returns-in_err-outline-clause-answer : goal.returns-in_err-outline-clause-answer
unfolding class_outcome
returns-in_err-outline-clause-answer c =
    let p = err_from_is_err_and c.from_residual.result c.from_residual.ensures.1 in
    rw (p.1, p.2)
    (refused_answered (λ I. fitting (length c.args.out.now) (class_names_of I)) c.args.file.now c.args.out.now _
    c.in_err-outline.ensures.tells)

pub returns-in_err-outline-clause-meaning : goal.returns-in_err-outline-clause-meaning
returns-in_err-outline-clause-meaning c =
    let p = err_from_is_err_and c.from_residual.result c.from_residual.ensures.1 in
    rw (p.1, p.2) (λ z. absurd (number_some _ z))

pub returns-clause-answer : goal.returns-clause-answer
unfolding class_outcome
returns-clause-answer c =
    let h = c.in_ok-outline.ensures.found in
    file_answered (λ I. fitting (length c.args.out.now) (class_names_of I)) h (c.write_named.ensures h.contents h.describes)

pub returns-clause-meaning : goal.returns-clause-meaning
returns-clause-meaning c z =
    let old = c.args.out.now in
    let h = c.in_ok-outline.ensures.found in
    let I = instrument_of h.contents in
    means ClassesMean class_names_of class_means h old _ (fitting_entries (class_names_of I) (length old) (c.write_named.ensures h.contents h.describes) z)

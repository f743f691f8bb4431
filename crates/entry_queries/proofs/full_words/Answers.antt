use Rattle.std.proofs.Common.{length, arith}
use Rattle.std.proofs.lemmas.Result.{err_from_is_err_and}
use Rattle.meaning.specs.File.Grammar.{instrument_of}
use Rattle.meaning.specs.Reference.Answers.{full_count, full_words}
use Rattle.answers.specs.Buffers.{fitting}
use Rattle.answers.specs.Outcomes.{full_outcome, within}
use Rattle.answers.specs.Means.{FullMeans}
use Rattle.answers.proofs.Means.{full_means}
use Rattle.entry_queries.proofs.Answering.{number_some, refused_answered, file_answered, within_entries, means}
use Rattle.entry_queries.proofs.full_words.Goals as goal

pub invariant_of-t : goal.invariant_of-t
invariant_of-t c = let h = c.in_ok-outline.ensures.found in record { described = (h.contents, h.describes) }

pub returns-in_err-outline-clause-answer : goal.returns-in_err-outline-clause-answer
unfolding full_outcome
returns-in_err-outline-clause-answer c =
    let p = err_from_is_err_and c.from_residual.result c.from_residual.ensures.1 in
    rw (p.1, p.2)
    (refused_answered (λ I. within (full_count I) 11 (fitting (length c.args.out.now) (full_words I))) c.args.file.now c.args.out.now _
    c.in_err-outline.ensures.tells)

pub returns-in_err-outline-clause-meaning : goal.returns-in_err-outline-clause-meaning
returns-in_err-outline-clause-meaning c =
    let p = err_from_is_err_and c.from_residual.result c.from_residual.ensures.1 in
    rw (p.1, p.2) (λ z. absurd (number_some _ z))

pub returns-clause-answer : goal.returns-clause-answer
unfolding full_outcome
returns-clause-answer c =
    let h = c.in_ok-outline.ensures.found in
    file_answered (λ I. within (full_count I) 11 (fitting (length c.args.out.now) (full_words I))) h (c.write_full.ensures h.contents h.describes)

pub returns-clause-meaning : goal.returns-clause-meaning
returns-clause-meaning c z =
    let old = c.args.out.now in
    let h = c.in_ok-outline.ensures.found in
    let I = instrument_of h.contents in
    means FullMeans full_words full_means h old _ (within_entries (full_words I) (length old) (full_count I) 11 (omega arith) (c.write_full.ensures h.contents h.describes) z)

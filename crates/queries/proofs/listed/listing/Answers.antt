use Rattle.std.proofs.Common.{length}
use Rattle.std.proofs.lemmas.Result.{err_from_is_err_and}
use Rattle.answers.specs.Outcomes.{judgement, verdict_of}
use Rattle.answers.specs.Listing.{listed, listing_outcome}
use Rattle.entry_queries.proofs.Answering.{refused_answered, file_answered}
use Rattle.queries.proofs.listed.listing.Goals as goal

pub invariant_of-t : goal.invariant_of-t
invariant_of-t c = let h = c.in_ok-outline.ensures.found in record { described = (h.contents, h.describes) }

pub returns-in_err-outline : goal.returns-in_err-outline
unfolding listing_outcome
returns-in_err-outline c =
    let p = err_from_is_err_and c.from_residual.result c.from_residual.ensures.1 in
    let e =
    refused_answered (λ I. listed I (length c.args.out.now) (judgement (verdict_of I))) c.args.file.now c.args.out.now _ c.in_err-outline.ensures.tells in
    record { answer = rw (p.1, p.2) e }

pub returns : goal.returns
unfolding listing_outcome
returns c =
    let h = c.in_ok-outline.ensures.found in
    record { answer = file_answered (λ I. listed I (length c.args.out.now) (judgement (verdict_of I))) h (c.write_listing.ensures h.contents h.describes) }

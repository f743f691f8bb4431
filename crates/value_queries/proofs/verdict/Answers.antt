use Rattle.std.proofs.Common.{sym, ap, ◌∙◌}
use Rattle.std.proofs.lemmas.Result.{err_from_is_err_and}
use Rattle.answers.specs.Outcomes.{judgement, verdict_of, verdict_reply}
use Rattle.value_queries.proofs.Telling.{reply_refused, reply_found, denied_given, verdict_holds}
use Rattle.value_queries.proofs.verdict.Goals as goal

pub invariant_of-t : goal.invariant_of-t
invariant_of-t c = let h = c.in_ok-outline.ensures.found in record { described = (h.contents, h.describes) }

pub returns-in_err-outline-clause-answer : goal.returns-in_err-outline-clause-answer
unfolding verdict_reply
returns-in_err-outline-clause-answer c =
    let p = err_from_is_err_and c.from_residual.result c.from_residual.ensures.1 in
    rw (p.1, p.2) (reply_refused (λ I. judgement (verdict_of I)) c.args.file.now _ c.in_err-outline.ensures.tells)

pub returns-in_err-outline-clause-meaning : goal.returns-in_err-outline-clause-meaning
returns-in_err-outline-clause-meaning c =
    let p = err_from_is_err_and c.from_residual.result c.from_residual.ensures.1 in
    rw (p.1, p.2) (λ j z. absurd (denied_given z))

pub returns-clause-answer : goal.returns-clause-answer
unfolding verdict_reply
returns-clause-answer c =
    let h = c.in_ok-outline.ensures.found in
    reply_found (λ I. judgement (verdict_of I)) h (c.judge.ensures h.contents h.describes)

pub returns-clause-meaning : goal.returns-clause-meaning
returns-clause-meaning c =
    λ j z.
    let h = c.in_ok-outline.ensures.found in
    verdict_holds h j (sym (c.judge.ensures h.contents h.describes) ∙ z)

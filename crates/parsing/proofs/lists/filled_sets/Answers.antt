use Rattle.std.proofs.Common.{sym, ap, ◌∙◌, arith}
use Rattle.std.proofs.lemmas.List.{set-get_or}
use Rattle.std.proofs.lemmas.Result.{err_from_is_err_and}
use Rattle.meaning.specs.File.Parser.{done}
use Rattle.parsing.specs.Stages.{mapped}
use Rattle.parsing.proofs.Stays.{store_filled}
use Rattle.parsing.proofs.Faults.{stops, stops_held, goes_on, ends, ends_held}
use Rattle.parsing.proofs.lists.filled_sets.Goals as goal

-- The loop has read p sets, and they are stored filled.

pub returns-in_err-set-clause-answer : goal.returns-in_err-set-clause-answer
returns-in_err-set-clause-answer c =
    let p = err_from_is_err_and c.from_residual.result c.from_residual.ensures.1 in
    let e = stops _ _ _ _ _ _ _ _ _ _ _ c.loop-p.invariant c.loop-p-test.true _ c.in_err-set.ensures.answer in
    rw (p.1, p.2) (sym (ap (mapped (λ vs. done)) e))

pub returns-in_err-set-clause-stored : goal.returns-in_err-set-clause-stored
returns-in_err-set-clause-stored c =
    set-get_or _ _ _ ∙ stops_held _ _ _ _ _ _ _ _ _ _ _ c.loop-p.invariant c.loop-p-test.true _ c.in_err-set.ensures.answer

pub loop-p-preserved : goal.loop-p-preserved
loop-p-preserved c =
    goes_on _ _ _ _ _ _ _ _ _ _ _ c.loop-p.invariant _ c.loop-p-test.true _ _ _ c.in_ok-set.ensures.answer c.in_ok-set.ensures.same_file
    (λ s n h. store_filled _ _ _ _ s _ _ c.filled.ensures n h)

pub returns-clause-answer : goal.returns-clause-answer
returns-clause-answer c =
    sym (ap (mapped (λ vs. done)) (ends _ _ _ _ _ _ _ _ _ _ _ c.loop-p.invariant (omega arith)))

pub returns-clause-stored : goal.returns-clause-stored
returns-clause-stored c = ends_held _ _ _ _ _ _ _ _ _ _ _ c.loop-p.invariant (omega arith)

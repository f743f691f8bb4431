use Rattle.std.proofs.Common.{sym, ap, ◌∙◌, arith}
use Rattle.std.proofs.lemmas.List.{set-get_or}
use Rattle.std.proofs.lemmas.Result.{err_from_is_err_and}
use Rattle.meaning.specs.File.Parser.{done}
use Rattle.parsing.specs.Stages.{mapped}
use Rattle.parsing.proofs.Stores.{store_more}
use Rattle.parsing.proofs.Faults.{stops, stops_held, goes_on, ends, ends_held}
use Rattle.parsing.proofs.lists.words_between.Goals as goal

-- The loop has read i words, and they are stored.

pub returns-in_err-v-clause-answer : goal.returns-in_err-v-clause-answer
returns-in_err-v-clause-answer c =
    let p = err_from_is_err_and c.from_residual.result c.from_residual.ensures.1 in
    let e = stops _ _ _ _ _ _ _ _ _ _ _ c.loop-slot.invariant c.loop-slot-test.true _ c.in_err-v.ensures.answer in
    rw (p.1, p.2) (sym (ap (mapped (λ vs. done)) e))

pub returns-in_err-v-clause-stored : goal.returns-in_err-v-clause-stored
returns-in_err-v-clause-stored c =
    set-get_or _ _ _ ∙ stops_held _ _ _ _ _ _ _ _ _ _ _ c.loop-slot.invariant c.loop-slot-test.true _ c.in_err-v.ensures.answer

pub loop-slot-preserved : goal.loop-slot-preserved
loop-slot-preserved c =
    goes_on _ _ _ _ _ _ _ _ _ _ _ c.loop-slot.invariant _ c.loop-slot-test.true _ _ _ c.in_ok-v.ensures.answer c.in_ok-v.ensures.same_file
    (λ s n h. store_more _ _ _ s _ n h)

pub returns-clause-answer : goal.returns-clause-answer
returns-clause-answer c =
    sym (ap (mapped (λ vs. done)) (ends _ _ _ _ _ _ _ _ _ _ _ c.loop-slot.invariant (omega arith)))

pub returns-clause-stored : goal.returns-clause-stored
returns-clause-stored c = ends_held _ _ _ _ _ _ _ _ _ _ _ c.loop-slot.invariant (omega arith)

use Rattle.std.proofs.Common.{refl, sym, ap, ◌∙◌, arith}
use Rattle.std.proofs.lemmas.List.{set-get_or}
use Rattle.std.proofs.lemmas.Result.{err_from_is_err_and}
use Rattle.meaning.specs.File.Grammar.{with_all}
use Rattle.parsing.specs.Stages.{mapped}
use Rattle.parsing.proofs.Stores.{store_more, with_none, with_more}
use Rattle.parsing.proofs.Faults.{begins, stops, stops_held, goes_on, ends, ends_held}
use Rattle.parsing.proofs.Signals.{signal_below}
use Rattle.parsing.proofs.lists.signals.Goals as goal

-- The loop has read i signals: they are stored, `set` has them besides, and `low` is above the last.

pub loop-slot-init : goal.loop-slot-init
loop-slot-init c = begins _ _ _ _ _ _ _ (refl, with_none _)

pub returns-in_err-v-clause-answer : goal.returns-in_err-v-clause-answer
returns-in_err-v-clause-answer c =
    let p = err_from_is_err_and c.from_residual.result c.from_residual.ensures.1 in
    let e = stops _ _ _ _ _ _ _ _ _ _ _ c.loop-slot.invariant c.loop-slot-test.true _ c.in_err-v.ensures.answer in
    rw (p.1, p.2) (sym (ap (mapped (with_all c.args.known)) e))

pub returns-in_err-v-clause-stored : goal.returns-in_err-v-clause-stored
returns-in_err-v-clause-stored c =
    set-get_or _ _ _ ∙ (stops_held _ _ _ _ _ _ _ _ _ _ _ c.loop-slot.invariant c.loop-slot-test.true _ c.in_err-v.ensures.answer).0

pub insert-set-requires : goal.insert-set-requires
insert-set-requires c = omega (arith, signal_below _ _ _ _ _ _ _ c.in_ok-v.ensures.answer)

pub overflow_add-low : goal.overflow_add-low
overflow_add-low c = omega (arith, signal_below _ _ _ _ _ _ _ c.in_ok-v.ensures.answer)

pub loop-slot-preserved : goal.loop-slot-preserved
loop-slot-preserved c =
    goes_on _ _ _ _ _ _ _ _ _ _ _ c.loop-slot.invariant _ c.loop-slot-test.true _ _ _ c.in_ok-v.ensures.answer c.in_ok-v.ensures.same_file
    (λ s n h. (store_more _ _ _ s _ n h.0, c.insert-set.ensures ∙ (rw h.1 (with_more _ s _))))

pub returns-clause-answer : goal.returns-clause-answer
returns-clause-answer c =
    let p = c.loop-slot.invariant in
    rw p.progress.held.0.1 (sym (ap (mapped (with_all c.args.known)) (ends _ _ _ _ _ _ _ _ _ _ _ p (omega arith))))

pub returns-clause-stored : goal.returns-clause-stored
returns-clause-stored c = (ends_held _ _ _ _ _ _ _ _ _ _ _ c.loop-slot.invariant (omega arith)).0

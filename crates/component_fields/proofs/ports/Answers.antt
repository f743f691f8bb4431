use Rattle.std.proofs.Common.{sym, refl, arith}
use Rattle.std.proofs.lemmas.Result.{err_from_is_err_and}
use Rattle.cursor.proofs.Judged.{between_le}
use Rattle.parsing.proofs.Parts.{part_length}
use Rattle.component_fields.proofs.Parts.{all_counted, ports_refused, ports_stored}
use Rattle.component_fields.proofs.ports.Goals as goal

pub slice_bounds-signals-end : goal.slice_bounds-signals-end
slice_bounds-signals-end c = omega (arith, c.requires.1, between_le _ _ _ _ _ _ _ c.in_ok-count.ensures.answer)

pub slice_bounds-signals-end-2 : goal.slice_bounds-signals-end-2
slice_bounds-signals-end-2 c =
    sym (part_length 0 _ _ c.args.out.now refl (omega (arith, c.requires.1, between_le _ _ _ _ _ _ _ c.in_ok-count.ensures.answer)))

pub returns-in_err-set-clause-answer : goal.returns-in_err-set-clause-answer
returns-in_err-set-clause-answer c =
    let p = err_from_is_err_and c.from_residual-in_err-set.result c.from_residual-in_err-set.ensures.1 in
    let n = c.in_ok-count.ensures in
    let long = part_length 0 _ _ c.args.out.now refl (omega (arith, c.requires.1, between_le _ _ _ _ _ _ _ n.answer)) in
    rw (p.1, p.2) (sym (ports_refused _ _ _ _ _ _ _ _ n.answer n.same_file _ _ _ long c.in_err-set.ensures.answer))

pub returns-in_err-set-clause-stored : goal.returns-in_err-set-clause-stored
returns-in_err-set-clause-stored c =
    let n = c.in_ok-count.ensures in
    ports_stored _ _ _ _ _ _ _ _ n.answer n.same_file c.args.out.now _ (omega (arith, c.requires.1, between_le _ _ _ _ _ _ _ n.answer))
    c.signals.ensures.stored

pub returns-clause-answer : goal.returns-clause-answer
returns-clause-answer c =
    let n = c.in_ok-count.ensures in
    let long = part_length 0 _ _ c.args.out.now refl (omega (arith, c.requires.1, between_le _ _ _ _ _ _ _ n.answer)) in
    all_counted _ _ _ _ _ _ _ _ n.answer n.same_file _ _ _ _ long c.in_ok-set.ensures.answer

pub returns-clause-stored : goal.returns-clause-stored
returns-clause-stored c =
    let n = c.in_ok-count.ensures in
    ports_stored _ _ _ _ _ _ _ _ n.answer n.same_file c.args.out.now _ (omega (arith, c.requires.1, between_le _ _ _ _ _ _ _ n.answer))
    c.signals.ensures.stored

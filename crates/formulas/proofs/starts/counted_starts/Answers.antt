use Rattle.std.proofs.Common.{◌≡◌, ◌+◌, ◌*◌, ◌≤◌, sym, ap, ◌∙◌, length, arith, rules}
use Rattle.std.proofs.lemmas.Result.{err_from_is_err_and}
use Rattle.meaning.specs.File.Parser.{done, found}
use Rattle.meaning.specs.File.Grammar.{limits}
use Rattle.parsing.specs.Stages.{mapped}
use Rattle.parsing.proofs.Faults.{stops, goes_on, ends}
use Rattle.parsing.proofs.Parsers.{was, was_fault}
use Rattle.parsing.proofs.Parts.{part_length}
use Rattle.formulas.specs.Formulas.{start_list}
use Rattle.formulas.proofs.Layouts.{start_asked, start_stored, start_more}
use Rattle.formulas.proofs.starts.counted_starts.Goals as goal

-- The loop has read the first j starts, and they are stored.

pub returns-in_err-place-clause-answer : goal.returns-in_err-place-clause-answer
returns-in_err-place-clause-answer c =
    let p = err_from_is_err_and c.from_residual.result c.from_residual.ensures.1 in
    let room : limits.components * c.loop-j.j + limits.components ≤ length c.loop-j.starts = search rules in
    let stopped = was_fault (λ vs. done) _ _
    (start_asked _ _ _ _ _ _ c.in_err-place.ensures.answer (part_length _ _ _ c.loop-j.starts (omega arith) (omega arith))) in
    let e = stops _ _ _ _ _ _ _ _ _ _ _ c.loop-j.invariant c.loop-j-test.true _ (sym stopped) in
    rw (p.1, p.2) (sym (ap (mapped start_list) e))

pub loop-j-preserved : goal.loop-j-preserved
loop-j-preserved c =
    let p = c.loop-j.invariant in
    let room : limits.components * c.loop-j.j + limits.components ≤ length c.loop-j.starts = search rules in
    let w = was (λ vs. done) _ _ _
    (start_asked _ _ _ _ _ _ c.in_ok-place.ensures.answer (part_length _ _ _ c.loop-j.starts (omega arith) (omega arith))) in
    goes_on _ _ _ _ _ _ _ _ _ _ _ p _ c.loop-j-test.true w.value _ _ (sym w.is) c.in_ok-place.ensures.same_file
    (λ ss n h. start_more _ _ _ _ _ ss w.value n
    (start_stored _ _ _ _ c.loop-j.j c.loop-j.starts _ _ _ c.requires.1 room w.is c.in_ok-place.ensures.stored) h)

pub returns-clause-answer : goal.returns-clause-answer
returns-clause-answer c =
    let p = c.loop-j.invariant in
    let n : c.args.count ≡ length p.progress.seen = omega (arith, p.progress.long) in
    (λ i. found (record { count = n i; starts = p.progress.held.0 i }) c.loop-j.place.at)
    ∙ sym (ap (mapped start_list) (ends _ _ _ _ _ _ _ _ _ _ _ p (omega arith)))

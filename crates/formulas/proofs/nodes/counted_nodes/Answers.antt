use Rattle.std.proofs.Common.{◌≡◌, sym, ap, ◌∙◌, length, arith}
use Rattle.std.proofs.lemmas.Result.{err_from_is_err_and}
use Rattle.meaning.specs.File.Parser.{found}
use Rattle.instrument.specs.Layout.{node_of}
use Rattle.parsing.specs.Stages.{mapped}
use Rattle.parsing.proofs.Faults.{stops, goes_on, ends}
use Rattle.parsing.proofs.Parsers.{was, was_fault}
use Rattle.formulas.specs.Formulas.{node_list}
use Rattle.formulas.proofs.Layouts.{node_more}
use Rattle.formulas.proofs.nodes.counted_nodes.Goals as goal

-- The loop has read the first k nodes, and they are stored.

pub returns-in_err-node-clause-answer : goal.returns-in_err-node-clause-answer
returns-in_err-node-clause-answer c =
    let p = err_from_is_err_and c.from_residual.result c.from_residual.ensures.1 in
    let stopped = was_fault node_of _ _ c.in_err-node.ensures.answer in
    let e = stops _ _ _ _ _ _ _ _ _ _ _ c.loop-k.invariant c.loop-k-test.true _ (sym stopped) in
    rw (p.1, p.2) (sym (ap (mapped node_list) e))

pub loop-k-preserved : goal.loop-k-preserved
loop-k-preserved c =
    let w = was node_of _ _ _ c.in_ok-node.ensures.answer in
    goes_on _ _ _ _ _ _ _ _ _ _ _ c.loop-k.invariant _ c.loop-k-test.true w.value _ _ (sym w.is) c.in_ok-node.ensures.same_file
    (λ s n h. node_more _ _ _ _ s w.value n w.same h)

pub returns-clause-answer : goal.returns-clause-answer
returns-clause-answer c =
    let p = c.loop-k.invariant in
    let n : c.args.count ≡ length p.progress.seen = omega (arith, p.progress.long) in
    (λ i. found (record { count = n i; nodes = p.progress.held.0 i }) c.loop-k.place.at)
    ∙ sym (ap (mapped node_list) (ends _ _ _ _ _ _ _ _ _ _ _ p (omega arith)))

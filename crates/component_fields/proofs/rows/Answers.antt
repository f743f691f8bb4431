use Rattle.std.proofs.Common.{ℕ, sym, ap, arith}
use lib.ListN.{length-take}
use Rattle.std.proofs.lemmas.Result.{err_from_is_err_and}
use Rattle.meaning.specs.File.Parser.{done}
use Rattle.parsing.specs.Stages.{mapped}
use Rattle.parsing.proofs.Parsers.{was, was_fault}
use Rattle.parsing.proofs.Parts.{part_length}
use Rattle.component_fields.proofs.Parts.{after_outs, outs_asked, outs_stopped, nexts_stored, nexts_place, all_states, few, shifted}
use Rattle.component_fields.proofs.rows.Goals as goal

pub slice_bounds-filled_sets-end : goal.slice_bounds-filled_sets-end
slice_bounds-filled_sets-end c =
    let p = c.requires.s_le_states in
    omega (arith, few _ _ p.0 p.1, shifted _ _ p.0 p.1, c.requires.most_states_in_bounds.1)

pub filled_sets-requires : goal.filled_sets-requires
filled_sets-requires c =
    let p = c.requires.s_le_states in
    omega (arith, all_states c.args.size.states c.args.size.inputs p.0, shifted _ _ p.0 p.1, length-take {A = ℕ})

pub returns-in_err-next-clause-answer : goal.returns-in_err-next-clause-answer
returns-in_err-next-clause-answer c =
    let p = err_from_is_err_and c.from_residual.result c.from_residual.ensures.1 in
    let z = c.args.size in
    let room = c.requires.most_states_in_bounds.0 in
    let few = c.requires.s_le_states.0 in
    let top = c.below-top.ensures in
    let asked = outs_asked z.states z.inputs z.outputs _ _ _ top _ _ c.in_err-next.ensures.answer
    (part_length _ _ _ c.args.outs.now (omega arith) (omega arith)) in
    rw (p.1, p.2) (sym (ap (mapped (λ x. done)) (after_outs z.states z.inputs z.outputs _ _ _ top _ (was_fault (λ vs. done) _ _ asked))))

pub returns-in_err-next-clause-nexts_after : goal.returns-in_err-next-clause-nexts_after
returns-in_err-next-clause-nexts_after c =
    let z = c.args.size in
    let room = c.requires.most_states_in_bounds.0 in
    let few = c.requires.s_le_states.0 in
    let top = c.below-top.ensures in
    let asked = outs_asked z.states z.inputs z.outputs _ _ _ top _ _ c.in_err-next.ensures.answer
    (part_length _ _ _ c.args.outs.now (omega arith) (omega arith)) in
    outs_stopped z.states z.inputs z.outputs _ _ _ top c.args.c c.args.outs.now c.args.nexts.now _ few room c.words_between.ensures.stored _
    (was_fault (λ vs. done) _ _ asked)

pub returns-clause-answer : goal.returns-clause-answer
returns-clause-answer c =
    let z = c.args.size in
    let p = c.requires.s_le_states in
    let room = c.requires.most_states_in_bounds in
    let n = c.in_ok-next.ensures in
    let top = c.below-top.ensures in
    let asked = outs_asked z.states z.inputs z.outputs _ _ _ top _ _ n.answer (part_length _ _ _ c.args.outs.now (omega arith) (omega arith)) in
    let w = was (λ vs. done) _ _ _ asked in
    let many = shifted _ _ p.0 p.1 in
    let few = few _ _ p.0 p.1 in
    nexts_place z.states z.inputs z.outputs _ _ _ top _ _ _ _ _ w.is n.same_file c.below-all.ensures many _ _ c.filled_sets.ensures.answer
    (part_length _ _ _ c.args.nexts.now (omega arith) (omega arith))

pub returns-clause-nexts_after : goal.returns-clause-nexts_after
returns-clause-nexts_after c =
    let z = c.args.size in
    let p = c.requires.s_le_states in
    let room = c.requires.most_states_in_bounds in
    let n = c.in_ok-next.ensures in
    let top = c.below-top.ensures in
    let asked = outs_asked z.states z.inputs z.outputs _ _ _ top _ _ n.answer (part_length _ _ _ c.args.outs.now (omega arith) (omega arith)) in
    let w = was (λ vs. done) _ _ _ asked in
    let many = shifted _ _ p.0 p.1 in
    let few = few _ _ p.0 p.1 in
    nexts_stored z.states z.inputs z.outputs _ _ _ top c.args.c c.args.outs.now c.args.nexts.now _ p.0 room.0 n.stored _ _ _ _ _ w.is n.same_file
    c.below-all.ensures many (omega arith) room.1 _ c.filled_sets.ensures.stored

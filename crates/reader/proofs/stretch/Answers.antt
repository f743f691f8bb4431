use Rattle.std.proofs.Common.{ap, ◌∙◌}
use Rattle.std.proofs.lemmas.Result.{err_from_is_err_and}
use Rattle.parsing.proofs.Parsers.{was, was_fault}
use Rattle.tables.specs.Stages.{add_component, read_first}
use Rattle.tables.specs.Growth.{add_shape}
use Rattle.tables.specs.Steps.{shapes_in}
use Rattle.tables.proofs.Growth.{add_shape_lem}
use Rattle.reader.proofs.Places.{locates_fault, locates_found, first_fault, stretch_fault, stretch_found}
use Rattle.reader.proofs.stretch.Goals as goal

pub returns-in_err-before : goal.returns-in_err-before
returns-in_err-before c =
    let p = err_from_is_err_and c.from_residual.result c.from_residual.ensures.1 in
    let e = was_fault shapes_in (read_first c.args.c c.args.file.now 0) _ c.in_err-before.ensures.answer in
    rw (p.1, p.2) (locates_fault _ _ (first_fault c.args.file.now c.args.c _ e))

pub returns-in_err-end : goal.returns-in_err-end
returns-in_err-end c =
    let file = c.args.file.now in
    let start = c.in_ok-before.start in
    let p = err_from_is_err_and c.from_residual-in_err-end.result c.from_residual-in_err-end.ensures.1 in
    -- the components before it
    let w = was shapes_in (read_first c.args.c file 0) _ _ c.in_ok-before.ensures.answer in
    let e =
    c.in_err-end.ensures.answer ∙ ap (λ f. add_shape c.in_ok-before.before f start.at) c.in_ok-before.ensures.same_file
    ∙ ap (λ t. add_shape t file start.at) w.same ∙ add_shape_lem file w.value start.at in
    rw (p.1, p.2)
    (locates_fault _ _ (stretch_fault file c.args.c w.is _ (was_fault shapes_in (add_component w.value file start.at) _ e)))

pub returns : goal.returns
returns c =
    let file = c.args.file.now in
    let start = c.in_ok-before.start in
    -- the components before it
    let w = was shapes_in (read_first c.args.c file 0) _ _ c.in_ok-before.ensures.answer in
    let e =
    c.in_ok-end.ensures.answer ∙ ap (λ f. add_shape c.in_ok-before.before f start.at) c.in_ok-before.ensures.same_file
    ∙ ap (λ t. add_shape t file start.at) w.same ∙ add_shape_lem file w.value start.at in
    let v = was shapes_in (add_component w.value file start.at) _ _ e in
    locates_found _ _ _ (stretch_found file c.args.c w.is v.value _ v.is)

use Rattle.std.proofs.Common.{sym, ap, ◌∙◌, arith}
use Rattle.std.proofs.lemmas.Result.{err_from_is_err_and}
use Rattle.meaning.specs.File.Grammar.{limits, finished}
use Rattle.parsing.specs.Stages.{mapped}
use Rattle.parsing.proofs.Parsers.{was_fault}
use Rattle.tables.specs.Stages.{read_tables}
use Rattle.tables.specs.Steps.{shapes_in}
use Rattle.formulas.specs.Formulas.{node_list, start_list, all_nodes, all_starts}
use Rattle.reader.proofs.Files.{fault_in_tables, fault_in_nodes, fault_in_starts, in_stages, tabled_reached, whole_reached}
use Rattle.reader.proofs.Files.{nodes_read, nodes_refused, starts_read, starts_refused, ended, trailing}
use Rattle.reader.proofs.whole.Goals as goal

-- The stages one after the other: each is read in the same file, from the place that the one before it reached.

pub returns-in_err-shapes-clause-laid : goal.returns-in_err-shapes-clause-laid
returns-in_err-shapes-clause-laid c =
    let p = err_from_is_err_and c.from_residual.result c.from_residual.ensures.1 in
    let e = was_fault shapes_in (read_tables c.args.file.now 0) _ c.in_err-shapes.ensures.tabled.shows in
    rw (p.1, p.2) (fault_in_tables c.args.file.now _ e)

pub returns-in_err-formula-clause-laid : goal.returns-in_err-formula-clause-laid
returns-in_err-formula-clause-laid c =
    let file = c.args.file.now in
    let shapes = c.in_ok-shapes.shapes in
    let first = c.in_ok-shapes.first in
    let p = err_from_is_err_and c.from_residual-in_err-formula.result c.from_residual-in_err-formula.ensures.1 in
    let t = tabled_reached c.in_ok-shapes.ensures.tabled in
    let e =
    c.in_err-formula.ensures.answer
    ∙ ap (λ f. mapped node_list (all_nodes shapes.signals shapes.driven f first.at)) c.in_ok-shapes.ensures.same_file in
    rw (p.1, p.2) (fault_in_nodes file _ (nodes_refused file t (omega arith) _ e))

pub returns-in_err-starts-clause-laid : goal.returns-in_err-starts-clause-laid
returns-in_err-starts-clause-laid c =
    let file = c.args.file.now in
    let shapes = c.in_ok-shapes.shapes in
    let first = c.in_ok-shapes.first in
    let next = c.in_ok-formula.next in
    let p = err_from_is_err_and c.from_residual-in_err-starts.result c.from_residual-in_err-starts.ensures.1 in
    let t = tabled_reached c.in_ok-shapes.ensures.tabled in
    let e =
    c.in_ok-formula.ensures.answer
    ∙ ap (λ f. mapped node_list (all_nodes shapes.signals shapes.driven f first.at)) c.in_ok-shapes.ensures.same_file in
    let u = nodes_read file t (omega arith) c.in_ok-formula.formula next.at e in
    let o = c.in_ok-formula.ensures.same_file ∙ c.in_ok-shapes.ensures.same_file in
    let f = c.in_err-starts.ensures.answer ∙ ap (λ f. mapped start_list (all_starts shapes.states shapes.components f next.at)) o in
    rw (p.1, p.2) (fault_in_starts file _ (starts_refused file u (omega arith) c.in_ok-shapes.ensures.components_le_components.0 _ f))

pub returns-in_err-finish-clause-laid : goal.returns-in_err-finish-clause-laid
returns-in_err-finish-clause-laid c =
    let file = c.args.file.now in
    let shapes = c.in_ok-shapes.shapes in
    let first = c.in_ok-shapes.first in
    let next = c.in_ok-formula.next in
    let last = c.in_ok-starts.last in
    let p = err_from_is_err_and c.from_residual-in_err-finish.result c.from_residual-in_err-finish.ensures.1 in
    let t = tabled_reached c.in_ok-shapes.ensures.tabled in
    let e =
    c.in_ok-formula.ensures.answer
    ∙ ap (λ f. mapped node_list (all_nodes shapes.signals shapes.driven f first.at)) c.in_ok-shapes.ensures.same_file in
    let u = nodes_read file t (omega arith) c.in_ok-formula.formula next.at e in
    let o = c.in_ok-formula.ensures.same_file ∙ c.in_ok-shapes.ensures.same_file in
    let f = c.in_ok-starts.ensures.answer ∙ ap (λ f. mapped start_list (all_starts shapes.states shapes.components f next.at)) o in
    let v = starts_read file u (omega arith) c.in_ok-shapes.ensures.components_le_components.0 c.in_ok-starts.starts last.at f in
    let q = c.in_ok-starts.ensures.same_file ∙ o in
    rw (p.1, p.2) (sym (in_stages file) ∙ trailing file v _ (c.in_err-finish.ensures ∙ ap (λ f. finished limits f last.at) q))

pub returns-clause-laid : goal.returns-clause-laid
returns-clause-laid c =
    let file = c.args.file.now in
    let shapes = c.in_ok-shapes.shapes in
    let first = c.in_ok-shapes.first in
    let next = c.in_ok-formula.next in
    let last = c.in_ok-starts.last in
    let t = tabled_reached c.in_ok-shapes.ensures.tabled in
    let e =
    c.in_ok-formula.ensures.answer
    ∙ ap (λ f. mapped node_list (all_nodes shapes.signals shapes.driven f first.at)) c.in_ok-shapes.ensures.same_file in
    let u = nodes_read file t (omega arith) c.in_ok-formula.formula next.at e in
    let o = c.in_ok-formula.ensures.same_file ∙ c.in_ok-shapes.ensures.same_file in
    let f = c.in_ok-starts.ensures.answer ∙ ap (λ f. mapped start_list (all_starts shapes.states shapes.components f next.at)) o in
    let v = starts_read file u (omega arith) c.in_ok-shapes.ensures.components_le_components.0 c.in_ok-starts.starts last.at f in
    let q = c.in_ok-starts.ensures.same_file ∙ o in
    record {
      end = c.in_ok-finish.field-0.at;
      reached = whole_reached file (ended file v _ (c.in_ok-finish.ensures ∙ ap (λ f. finished limits f last.at) q));
    }

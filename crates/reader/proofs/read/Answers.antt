use Rattle.std.proofs.Common.{sym, ap, subst}
use Rattle.std.proofs.lemmas.Result.{err_from_is_err_and}
use Rattle.component_fields.specs.Stages.{Rows}
use Rattle.instrument.specs.declared.Outline.{Outline}
use Rattle.instrument.specs.Outline.{whole}
use Rattle.reader.specs.Outcomes.{Found}
use Rattle.reader.proofs.Found.{tells_found, tells_fault, reached_found}
use Rattle.reader.proofs.read.Goals as goal

pub returns-in_err-all-clause-tells : goal.returns-in_err-all-clause-tells
returns-in_err-all-clause-tells c =
    let p = err_from_is_err_and c.from_residual.result c.from_residual.ensures.1 in
    rw (p.1, p.2) (tells_fault Outline _ _ c.in_err-all.ensures.laid)

pub returns-in_err-all-clause-leaves : goal.returns-in_err-all-clause-leaves
returns-in_err-all-clause-leaves c = ap (λ (r : Rows). r.nexts) c.in_err-all.ensures.nexts_after

pub returns-clause-tells : goal.returns-clause-tells
returns-clause-tells c = tells_found c.held.result _ _ _ c.in_ok-all.ensures.laid.reached.read

pub returns-clause-found : goal.returns-clause-found
returns-clause-found c =
    let file = c.args.file.now in
    subst (λ (o : Outline). Found file (whole o c.whole.new.nexts)) (sym c.held.ensures)
    (reached_found file _ _ c.in_ok-all.ensures.laid.reached)

pub returns-clause-leaves : goal.returns-clause-leaves
returns-clause-leaves c = ap (λ (r : Rows). r.nexts) c.in_ok-all.ensures.nexts_after

use Rattle.std.proofs.Common.{sym, subst}
use Rattle.std.proofs.lemmas.Result.{err_from_is_err_and}
use Rattle.reader.specs.Steps.{Locates}
use Rattle.reader.proofs.Places.{locates_fault, located_fault, located_beyond, located_within}
use Rattle.reader.proofs.locate.Goals as goal

pub returns-in_err-all : goal.returns-in_err-all
returns-in_err-all c =
    let p = err_from_is_err_and c.from_residual.result c.from_residual.ensures.1 in
    rw (p.1, p.2) (locates_fault _ _ (located_fault _ _ _ c.in_err-all.ensures.laid))

pub returns-then-all-component : goal.returns-then-all-component
returns-then-all-component c =
    let r = c.in_ok-all.ensures.laid.reached in
    locates_fault _ _ (located_beyond _ _ _ _ _ r.read r.laid c.if-all-component.true)

pub returns : goal.returns
returns c =
    let r = c.in_ok-all.ensures.laid.reached in
    subst (Locates c.stretch.result) (sym (located_within _ _ _ _ _ r.read r.laid c.if-all-component.false)) c.stretch.ensures

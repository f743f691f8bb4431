use Rattle.refinement.proofs.Failing.{noted_narrow, failing_is}
use Rattle.refinement.proofs.again.failing.Goals as goal

pub matched_row-kept-requires : goal.matched_row-kept-requires
matched_row-kept-requires c = (
  c.requires,
  rw (c.intersection-among.ensures, c.intersection.ensures, c.complement-open.ensures, c.known.ensures) (noted_narrow _ _ _ _ _),
)

pub returns : goal.returns
returns c =
    failing_is _ _ _ _ _ _ c.known.ensures c.complement-open.ensures c.intersection.ensures c.intersection-among.ensures
    c.matched_row-kept.ensures c.complement.ensures c.intersection-2.ensures

use Rattle.std.proofs.Common.{◌∙◌}
use Rattle.refinement.specs.Again as again
use Rattle.refinement.proofs.again.known.Goals as goal

pub returns : goal.returns
unfolding again.known_with
returns c =
    c.union.ensures ∙ rw (c.pick-passed.ensures, c.member.ensures, c.pick-failed.ensures, c.member-2.ensures)

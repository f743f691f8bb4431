use Rattle.classes.proofs.Row.{kept_row}
use Rattle.classes.proofs.rule.kept.Goals as goal

pub returns : goal.returns
returns c =
    rw (
      c.intersection-2.ensures,
      c.intersection.ensures,
      c.below.ensures,
      c.union-ruled.ensures,
      c.union.ensures,
      c.pick-passed.ensures,
      c.member-2.ensures,
      c.pick-failed.ensures,
      c.member.ensures,
    ) (kept_row _ _ _ _ _)

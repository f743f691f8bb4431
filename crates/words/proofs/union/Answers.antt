use Rattle.std.proofs.Common.{◌∙◌}
use lib.Bits.{or_lt}
use Rattle.words.specs.Sets as sets
use Rattle.words.proofs.union.Goals as goal

pub narrow-requires : goal.narrow-requires
narrow-requires g c = or_lt _ _ _ c.wide.ensures.bound c.wide-2.ensures.bound

pub returns : goal.returns
unfolding sets.union
returns g c = c.narrow.ensures ∙ rw (c.wide.ensures.same, c.wide-2.ensures.same)

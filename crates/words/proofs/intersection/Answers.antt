use Rattle.std.proofs.Common.{◌∙◌}
use Rattle.words.specs.Sets as sets
use Rattle.words.proofs.intersection.Goals as goal

pub returns : goal.returns
unfolding sets.intersection
returns g c = c.narrow.ensures ∙ rw (c.wide.ensures.same, c.wide-2.ensures.same)

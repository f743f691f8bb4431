use Rattle.std.proofs.Common.{refl}
use Rattle.words.specs.Sets as sets
use Rattle.words.proofs.member.Goals as goal

pub returns : goal.returns
unfolding sets.digit
returns g c = rw (c.wide.ensures.same, c.at.ensures) refl

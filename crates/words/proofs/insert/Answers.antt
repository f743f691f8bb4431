use Rattle.std.proofs.Common.{◌∙◌, ◌<◌, arith}
use lib.Bits.{or_lt}
use lib.Pow.{pow-lt}
use Rattle.words.specs.Sets as sets
use Rattle.words.proofs.Digits.{power_word}
use Rattle.words.proofs.insert.Goals as goal

pub narrow-requires : goal.narrow-requires
narrow-requires g c =
    let low : c.at.result < 64 = omega (arith, c.at.ensures, c.requires, g.met.W.Word.within) in
    rw (power_word 64 c.at.result low, c.at.ensures) (or_lt _ _ _ c.wide.ensures.bound (pow-lt c.requires))

pub returns : goal.returns
unfolding sets.insert
returns g c =
    let low : c.at.result < 64 = omega (arith, c.at.ensures, c.requires, g.met.W.Word.within) in
    c.narrow.ensures ∙ rw (power_word 64 c.at.result low, c.at.ensures, c.wide.ensures.same)

use Rattle.std.proofs.Common.{◌∙◌, ◌<◌, ◌≤◌, arith, pow_mono, pow_pos}
use Rattle.words.specs.Sets as sets
use Rattle.words.proofs.Digits.{power_word}
use Rattle.words.proofs.below.Goals as goal

pub returns-then-n-eq64 : goal.returns-then-n-eq64
unfolding sets.below
returns-then-n-eq64 g c = c.narrow.ensures ∙ rw (← c.at-n.ensures, c.if-n-eq64.true)

pub narrow-requires-2 : goal.narrow-requires-2
narrow-requires-2 g c =
    let low : c.at-n.result < 64 = omega (arith, c.at-n.ensures, c.requires, g.met.W.Word.within, c.if-n-eq64.false) in
    let wide : c.at-n.result ≤ g.W.Word.width = omega (arith, c.at-n.ensures, c.requires) in
    rw (power_word 64 c.at-n.result low) (omega (arith, pow_pos c.at-n.result, pow_mono wide))

pub returns : goal.returns
unfolding sets.below
returns g c =
    let low : c.at-n.result < 64 = omega (arith, c.at-n.ensures, c.requires, g.met.W.Word.within, c.if-n-eq64.false) in
    c.narrow-2.ensures ∙ rw (power_word 64 c.at-n.result low, c.at-n.ensures)

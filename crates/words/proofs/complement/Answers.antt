use Rattle.std.proofs.Common.{◌∙◌, ◌≤◌, arith, rules, ◌<◌, ◌^◌}
use Rattle.words.proofs.Built.{complement_is}
use Rattle.words.proofs.complement.Goals as goal

pub returns : goal.returns
returns g c =
    let low : g.W.Word.place c.args.s ≤ 64 = omega (arith, c.requires, g.met.W.Word.within) in
    let fits : c.wide-2.result < 2 ^ 64 = search rules in
    c.narrow.ensures ∙ rw (c.wide.ensures.same, c.below-all.ensures) (complement_is 64 _ _ low fits ∙ rw c.wide-2.ensures.same)

use Rattle.std.proofs.Common.{◌<◌, ◌^◌, arith, rules}
use Rattle.words.proofs.Passing.{lowest_some, taken_less}
use Rattle.state_words.specs.Width.{state_bits}
use Rattle.state_words.proofs.passing.MembersLeftIterator.next.Goals as goal

pub returns-clause-steps : goal.returns-clause-steps
returns-clause-steps c =
    let left = c.args.self.now.left in
    let fits : left < 2 ^ state_bits = search rules in
    let low = lowest_some state_bits left fits c.if-self-eq0.false in
    (c.if-self-eq0.false, omega (arith, low.inside, c.lowest-z.ensures), c.lowest-z.ensures, c.without_lowest-self.ensures)

pub returns-clause-goes : goal.returns-clause-goes
returns-clause-goes c =
    let left = c.args.self.now.left in
    let fits : left < 2 ^ state_bits = search rules in
    let falls = taken_less state_bits fits c.if-self-eq0.false c.without_lowest-self.ensures in
    search (rules, falls)

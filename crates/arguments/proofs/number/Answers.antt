use Rattle.std.proofs.Common.{arith, rules}
use Rattle.arguments.proofs.Decimal.{not_long, not_digit, number_is}
use Rattle.arguments.proofs.number.Goals as goal

pub returns-then-text-eq0 : goal.returns-then-text-eq0
returns-then-text-eq0 c = not_long _ (λ a b. omega arith)

pub returns-then-text-gt10 : goal.returns-then-text-gt10
returns-then-text-gt10 c = not_long _ (λ a b. omega arith)

pub returns-then-b-lt48 : goal.returns-then-b-lt48
returns-then-b-lt48 c = not_digit c.args.text.now c.loop-b.b-index (omega arith) (λ a b. omega arith)

pub returns-then-b-gt57 : goal.returns-then-b-gt57
returns-then-b-gt57 c = not_digit c.args.text.now c.loop-b.b-index (omega arith) (λ a b. omega arith)

pub returns : goal.returns
returns c = number_is c.args.text.now c.ok.result (omega arith) c.loop-b.invariant (λ l. search rules) (λ l. search rules)

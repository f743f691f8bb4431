use Rattle.arguments.specs.Decimal.{Digits}
use Rattle.arguments.proofs.number.Given as goal

abbrev pub invariant-loop-b : goal.invariant-loop-b
invariant-loop-b l = Digits l.text l.b-index l.v

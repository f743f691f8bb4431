use Rattle.std.proofs.Common.{rules}
use Rattle.text.proofs.Texts.{decimal_std}
use Rattle.text.proofs.decimal.Goals as goal

pub word-requires : goal.word-requires
word-requires g c = search (rules, decimal_std c.args.v (search rules))

pub returns : goal.returns
returns g c = search (rules, decimal_std c.args.v (search rules))

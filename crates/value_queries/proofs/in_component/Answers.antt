use Rattle.std.proofs.Common.{refl, arith, lt-ltb, le-ltb}
use Rattle.value_queries.proofs.in_component.Goals as goal

pub returns-then-i-n : goal.returns-then-i-n
returns-then-i-n c = rw (lt-ltb c.args.i c.args.n (omega arith)) refl

pub returns : goal.returns
returns c = rw (le-ltb c.args.i c.args.n (omega arith)) refl

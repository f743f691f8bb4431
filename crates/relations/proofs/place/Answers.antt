use Rattle.std.proofs.Common.{arith}
use Rattle.relations.proofs.NodeRelations.{place_in, place_out}
use Rattle.relations.proofs.place.Goals as goal

pub returns-then-at-lt-MAX_NODES : goal.returns-then-at-lt-MAX_NODES
returns-then-at-lt-MAX_NODES c = (omega arith, place_in c.args.operand (omega arith))

pub returns-else-at-lt-MAX_NODES : goal.returns-else-at-lt-MAX_NODES
returns-else-at-lt-MAX_NODES c = (omega arith, place_out c.args.operand (omega arith))

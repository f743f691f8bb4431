use Rattle.classes.proofs.relation.put.Goals as goal

pub returns-then-yes : goal.returns-then-yes
returns-then-yes c = rw c.if-yes.true c.insert.ensures

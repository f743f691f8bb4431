use Rattle.std.proofs.Common.{◌≡◌, length, rules}
use Rattle.words.proofs.Built.{built_lt}
use Rattle.meaning.specs.File.Grammar.{most_states}
use Rattle.refinement.proofs.Looks.{looked_none, looked_deleted}
use Rattle.refinement.proofs.side.Side.look.Goals as goal

pub returns-then-failed-eq0 : goal.returns-then-failed-eq0
returns-then-failed-eq0 c =
    let (l, i) = c.requires in
    let la : length c.args.self.now.again ≡ most_states = search rules in
    looked_none c.args.on.table.steps.most_states_lem c.args.on.predecessors la l i c.failing-failed.ensures c.if-failed-eq0.true c.without-self.ensures

pub delete-requires : goal.delete-requires
delete-requires c = (c.args.on.table.steps.most_states_lem, c.requires.0, rw c.failing-failed.ensures (built_lt _ _))

pub returns : goal.returns
returns c =
    let (l, i) = c.requires in
    let la : length c.args.self.now.again ≡ most_states = search rules in
    let lr : length c.args.self.now.rows ≡ most_states = search rules in
    looked_deleted c.args.on.table.steps.most_states_lem c.args.on.predecessors la l i c.failing-failed.ensures c.if-failed-eq0.false lr c.without-self.ensures
    c.delete.ensures

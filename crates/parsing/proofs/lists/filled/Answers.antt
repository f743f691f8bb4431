use Rattle.std.proofs.Common.{sym, ◌∙◌}
use Rattle.parsing.proofs.Stays.{empty_filled, some_filled}
use Rattle.parsing.proofs.lists.filled.Goals as goal

pub returns-then-empty : goal.returns-then-empty
returns-then-empty c = c.insert.ensures ∙ empty_filled _ _ (sym c.empty.ensures ∙ c.if-empty.true)

pub returns : goal.returns
returns c = some_filled _ _ (sym c.empty.ensures ∙ c.if-empty.false)

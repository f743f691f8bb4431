use Rattle.std.proofs.Common.{arith}
use Rattle.words.proofs.Passing.{lowest_some}
use Rattle.state_words.specs.Width.{state_bits}
use Rattle.refinement.proofs.Looks.{later_row}
use Rattle.refinement.proofs.settle.next_row.Goals as goal

pub returns-then-later-eq0 : goal.returns-then-later-eq0
returns-then-later-eq0 c =
    rw c.lowest.ensures (lowest_some state_bits _ c.ranges.todo.fits (λ e. omega arith)).member

pub returns : goal.returns
returns c =
    rw c.lowest-2.ensures (later_row _ _ c.ranges.todo.fits c.difference-later.ensures c.if-later-eq0.false)

use Rattle.std.proofs.Common.{◌^◌}
use Rattle.meaning.specs.StepWords.{successor_word}
use Rattle.loops.specs.Folded.{Folded}
use Rattle.refinement.specs.Again.{united_to}
use Rattle.refinement.proofs.again.all_successors.Given as goal

abbrev pub invariant-loop-a : goal.invariant-loop-a
invariant-loop-a l =
    Folded (2 ^ l.table.inputs) (united_to l.table.states (successor_word l.table.inputs l.table.succ.now l.x)) l.a l.result

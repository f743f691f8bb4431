use Rattle.meaning.specs.Reference.Answers.{join_below}
use Rattle.arrayvec.specs.ArrayVec.{Extends}
use Rattle.answers.specs.Lines.{mark_line_at}
use Rattle.lines.proofs.mark_lines.Given as goal

abbrev pub invariant-loop-j : goal.invariant-loop-j
invariant-loop-j g l = Extends l.initial.out (join_below l.j (mark_line_at l.nodes l.marks)) l.out

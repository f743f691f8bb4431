use Rattle.std.proofs.Common.{List, get_or, ℕ}
use Rattle.meaning.specs.Reference.Answers.{join_below}
use Rattle.arrayvec.specs.ArrayVec.{Extends}
use Rattle.answers.specs.Lines.{hexadecimal_byte}
use Rattle.lines.proofs.hexadecimal_line.Given as goal

abbrev pub piece : List ℕ → ℕ → List ℕ
piece bytes i = hexadecimal_byte (get_or bytes i 0)

abbrev pub invariant-loop-b : goal.invariant-loop-b
invariant-loop-b g l = Extends l.initial.out (join_below l.b-index (piece l.bytes)) l.out

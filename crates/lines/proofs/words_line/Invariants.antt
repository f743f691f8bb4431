use Rattle.std.proofs.Common.{List, get_or, ℕ}
use Rattle.meaning.specs.Reference.Answers.{join_below}
use Rattle.arrayvec.specs.ArrayVec.{Extends}
use Rattle.answers.specs.Lines.{word_at}
use Rattle.lines.proofs.words_line.Given as goal

abbrev pub piece : List ℕ → ℕ → List ℕ
piece words i = word_at i (get_or words i 0)

abbrev pub invariant-loop-i : goal.invariant-loop-i
invariant-loop-i g l = Extends l.initial.out (join_below l.i (piece l.words)) l.out

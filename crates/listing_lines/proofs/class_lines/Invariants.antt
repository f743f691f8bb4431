use Rattle.std.proofs.Common.{List, [], get_or, ℕ}
use Rattle.meaning.specs.Reference.Answers.{join_below}
use Rattle.arrayvec.specs.ArrayVec.{Extends}
use Rattle.answers.specs.Listing.{class_line}
use Rattle.listing_lines.proofs.class_lines.Given as goal

abbrev pub piece : List ℕ → List (List ℕ) → ℕ → List ℕ
piece states names i = class_line i (get_or states i 0) (λ x. get_or (get_or names i []) x 0)

abbrev pub invariant-loop-c : goal.invariant-loop-c
invariant-loop-c g l = Extends l.initial.out (join_below l.c (piece l.states l.names)) l.out

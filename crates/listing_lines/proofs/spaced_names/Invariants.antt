use Rattle.std.proofs.Common.{List, ◌++◌, get_or, ℕ}
use Rattle.meaning.specs.Reference.Answers.{join_below}
use Rattle.arrayvec.specs.ArrayVec.{Extends}
use Rattle.answers.specs.Listing.{decimal, space}
use Rattle.listing_lines.proofs.spaced_names.Given as goal

abbrev pub piece : List ℕ → ℕ → List ℕ
piece names x = space ++ decimal (get_or names x 0)

abbrev pub invariant-loop-name : goal.invariant-loop-name
invariant-loop-name g l = Extends l.initial.out (join_below l.name-index (piece l.names)) l.out

use Rattle.meaning.specs.File.Grammar.{limits}
use Rattle.cursor.specs.Carried.{Carrying}
use Rattle.cursor.proofs.Cursor.groups.Given as goal

abbrev pub invariant-loop-place : goal.invariant-loop-place
invariant-loop-place l = Carrying l.self.file.now l.self.at limits.groups_before l.value l.weight l.place l.left

abbrev pub decreases-loop-place : goal.decreases-loop-place
decreases-loop-place l = l.left

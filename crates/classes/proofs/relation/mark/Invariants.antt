use Rattle.std.proofs.Common.{◌≡◌, length}
use Rattle.words.specs.Sets.{union}
use Rattle.meaning.specs.File.Grammar.{most_states}
use Rattle.classes.specs.Changed.{Changing}
use Rattle.classes.proofs.relation.mark.Given as goal

abbrev pub invariant-loop-z : goal.invariant-loop-z
invariant-loop-z l = (length l.initial.words ≡ most_states) × Changing (union l.more) l.places l.z-iterator.left l.initial.words l.words

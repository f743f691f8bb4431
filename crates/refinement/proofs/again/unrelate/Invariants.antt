use Rattle.std.proofs.Common.{◌≡◌, length}
use Rattle.words.specs.Sets.{without}
use Rattle.meaning.specs.File.Grammar.{most_states}
use Rattle.state_words.specs.Width.{state_bits}
use Rattle.classes.specs.Changed.{Changing}
use Rattle.refinement.proofs.again.unrelate.Given as goal

abbrev pub invariant-loop-y : goal.invariant-loop-y
invariant-loop-y l =
    (length l.initial.rows ≡ most_states) × Changing (λ w. without state_bits w l.x) l.places l.y-iterator.left l.initial.rows l.rows

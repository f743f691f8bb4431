use Rattle.std.proofs.Common.{◌≡◌, List, ℕ, length}
use lib.Seq.{sets}
use Rattle.meaning.specs.File.Parser.{done}
use Rattle.meaning.specs.File.Grammar.{between, limits}
use Rattle.parsing.proofs.Faults.{Reading}
use Rattle.parsing.proofs.lists.words_between.Given as goal

abbrev pub invariant-loop-slot : goal.invariant-loop-slot
invariant-loop-slot l =
    Reading (λ s. between limits l.lo l.hi 6) (λ s a. s) l.initial.place.file.now (length l.initial.slot-items) done l.initial.place.at
    (λ (s : List ℕ). l.slot-items ≡ sets l.initial.slot-items 0 s) l.slot-index done l.place.file.now l.place.at

use Rattle.std.proofs.Common.{◌≡◌, List, ℕ, length}
use lib.Seq.{sets}
use Rattle.meaning.specs.File.Parser.{done}
use Rattle.meaning.specs.File.Grammar.{between, filled_from, limits}
use Rattle.parsing.proofs.Faults.{Reading}
use Rattle.parsing.proofs.lists.filled_sets.Given as goal

abbrev pub invariant-loop-p : goal.invariant-loop-p
invariant-loop-p l =
    Reading (λ s. between limits 0 l.hi 6) (λ s a. s) l.initial.place.file.now (length l.initial.out) done l.initial.place.at
    (λ (s : List ℕ). l.out ≡ sets l.initial.out 0 (filled_from l.inputs 0 s)) l.p done l.place.file.now l.place.at

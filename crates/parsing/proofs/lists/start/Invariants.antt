use Rattle.std.proofs.Common.{◌≡◌, List, ℕ, length, ◌+◌}
use lib.Seq.{sets}
use Rattle.meaning.specs.File.Grammar.{start_state, limits}
use Rattle.parsing.proofs.Faults.{Reading}
use Rattle.parsing.proofs.lists.start.Given as goal

abbrev pub invariant-loop-c : goal.invariant-loop-c
invariant-loop-c l =
    Reading (start_state limits l.sizes) (λ c v. c + 1) l.initial.place.file.now (length l.initial.out) 0 l.initial.place.at
    (λ (s : List ℕ). l.out ≡ sets l.initial.out 0 s) l.c l.c l.place.file.now l.place.at

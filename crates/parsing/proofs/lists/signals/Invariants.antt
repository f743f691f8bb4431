use Rattle.std.proofs.Common.{◌≡◌, List, ℕ, length, ◌+◌}
use lib.Seq.{sets}
use Rattle.meaning.specs.File.Grammar.{signal, limits, with_all}
use Rattle.parsing.proofs.Faults.{Reading}
use Rattle.parsing.proofs.lists.signals.Given as goal

abbrev pub invariant-loop-slot : goal.invariant-loop-slot
invariant-loop-slot l =
    Reading (signal limits l.w l.taken) (λ low v. v + 1) l.initial.place.file.now (length l.initial.slot-items) 0 l.initial.place.at
    (λ (s : List ℕ). (l.slot-items ≡ sets l.initial.slot-items 0 s) × (l.set ≡ with_all l.initial.set s)) l.slot-index l.low l.place.file.now l.place.at

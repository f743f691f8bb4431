use Rattle.std.proofs.Common.{◌≡◌, List, ℕ}
use Rattle.meaning.specs.File.Parser.{Done, done}
use Rattle.meaning.specs.File.Grammar.{limits}
use Rattle.parsing.proofs.Faults.{Reading}
use Rattle.instrument.specs.Layout.{rows}
use Rattle.formulas.specs.Formulas.{start_by}
use Rattle.formulas.proofs.starts.counted_starts.Given as goal

abbrev pub invariant-loop-j : goal.invariant-loop-j
invariant-loop-j l =
    Reading (λ (s : Done). start_by l.sizes l.n) (λ s a. s) l.initial.place.file.now l.count done l.initial.place.at
    (λ (ss : List (List ℕ)). l.starts ≡ rows limits.components 0 l.initial.starts ss) l.j done l.place.file.now l.place.at

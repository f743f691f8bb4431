-- What the functions that read promise each other: lists that are stored, the place after them, and an instrument of some contents.
use Rattle.std.specs.Prelude.{◌≡◌, List, ℕ, ◌≤◌, Result, Ok, Err, IfOk}
use Rattle.std.proofs.lemmas.List.Edits.{sets}
use Rattle.meaning.specs.File.Parser.{Got, found, fault, Done, done}
use Rattle.meaning.specs.File.Grammar.{limits}
use Rattle.cursor.specs.Answers.{number}
use Rattle.cursor.specs.declared.Cursor.{Cursor}
use Rattle.cursor.specs.declared.Refusal.{Refusal}
use Rattle.instrument.specs.declared.Instrument.{Instrument}

-- the place after a list, and that it is one of this file
abbrev pub moved : Result Cursor Refusal → Got Done
moved (Ok next) = found done next.at
moved (Err r) = fault (number r)

abbrev pub MovedIn : List ℕ → Result Cursor Refusal → Type 0
MovedIn file r = IfOk r (λ next. next.file.now ≡ file)

-- these are stored from an index on, and nothing else is changed
abbrev pub Stored : List ℕ → ℕ → List ℕ → List ℕ → Type 0
Stored vs base before after = after ≡ sets before base vs

-- at most so many components, nodes and starts, and no more signals than there may be
pub record Fits (components nodes starts : ℕ) (t : Instrument) : Type 0 where
  pub few_components : t.components ≤ components
  pub few_signals : t.signals ≤ limits.signals
  pub few_nodes : t.nodecount ≤ nodes
  pub few_starts : t.startcount ≤ starts

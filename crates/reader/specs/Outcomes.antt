-- What the reader's answers say in document 01's words: the number of the outcome, and what is promised of the instrument of what was found.
use Rattle.std.specs.Prelude.{◌≡◌, List, ℕ, Result, Ok, Err}
use Rattle.meaning.specs.File.Parser.{Got, found, fault}
use Rattle.meaning.specs.File.Grammar.{Contents, read_file}
use Rattle.cursor.specs.Answers.{number}
use Rattle.cursor.specs.declared.Refusal.{Refusal}
use Rattle.instrument.specs.declared.Instrument.{Instrument}
use Rattle.instrument.specs.Described.{Describes}

-- 0 where something is answered, else the number of the refusal
abbrev pub outcome_number : {A : Type 0} → Result A Refusal → ℕ
outcome_number (Ok a) = 0
outcome_number (Err r) = number r

abbrev pub fault_number : {A : Type 0} → Got A → ℕ
fault_number (found a at) = 0
fault_number (fault r) = r

-- an answer tells whether something was found: Ok where it was, refused by the number of the fault where it was not
abbrev pub Tells : {A B : Type 0} → Result A Refusal → Got B → Type 0
Tells (Ok a) (found b at) = Unit {0}
Tells (Ok a) (fault r) = ⊥
Tells (Err cause) (found b at) = ⊥
Tells (Err cause) (fault r) = number cause ≡ r

-- the instrument of an accepted file: it holds the file's contents, whose tables are well formed and whose nodes have earlier operands
pub record Found (file : List ℕ) (t : Instrument) : Type 0 where
  pub contents : Contents
  pub end : ℕ
  pub read : read_file file ≡ found contents end
  pub describes : Describes t contents

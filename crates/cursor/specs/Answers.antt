-- What the answers say in document 01's words: the number of a refusal, and what was read with the place after it.
use Rattle.std.specs.Prelude.{◌≡◌, List, ℕ, Result, Ok, Err, IfOk}
use Rattle.meaning.specs.File.Parser.{Got, found, fault}
use Rattle.cursor.specs.declared.Cursor.{Cursor}
use Rattle.cursor.specs.declared.Refusal.{Refusal}
use Rattle.cursor.specs.declared.Refusal.TheVariants.{Ended, Form, Range, Order, Driven, Bits, Formula, Undriven, Start, Trailing}
use Rattle.cursor.specs.declared.Refusal.TheVariants.{FullSize, MergedSize, Short}

-- document 01, Refused
abbrev pub number : Refusal → ℕ
-- the file ends inside or before a number
number Ended = 1
-- a form that is not the shortest, or above 2^64 - 1
number Form = 2
-- a count, or an asked component number, outside its range
number Range = 3
-- a listed signal that is not ascending or not below W
number Order = 4
-- an output that is already driven, or also an own input
number Driven = 5
-- an output word or successor set with a bit too high
number Bits = 6
-- an unknown kind, or an operand that is not an earlier node
number Formula = 7
-- the formula names a signal that no component drives
number Undriven = 8
-- a start or asked state that is not in its component
number Start = 9
-- bytes after the last start
number Trailing = 10
-- a full combination of over 4,096 states
number FullSize = 11
-- a merged combination of over 4,096 states
number MergedSize = 12
-- a lent result that is shorter than its entries
number Short = 13

-- what was read, with the place after it, or the number of the refusal
abbrev pub got : {A : Type 0} → Result (A × Cursor) Refusal → Got A
got (Ok r) = found r.0 r.1.at
got (Err r) = fault (number r)

-- the place after it is one of this file
abbrev pub InFile : {A : Type 0} → List ℕ → Result (A × Cursor) Refusal → Type 0
InFile file r = IfOk r (λ r. r.1.file.now ≡ file)

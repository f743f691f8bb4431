-- Where a component stands in its file (document 01: "a query by component number hands back that component's own stretch of the file, from
-- its state count to its last successor set").
use Rattle.std.specs.Prelude.{ltb, length, List, ℕ}
use Rattle.meaning.specs.File.Parser.{Got, found, fault, Parser, on, ◌>>=◌, ◌>>◌, give}
use Rattle.meaning.specs.File.Number.{choose}
use Rattle.meaning.specs.File.Grammar.{limits, between, components, component, driven_by, filled, read_file}

-- from a place up to, not including, another
pub record Stretch : Type 0 where
  pub start : ℕ
  pub end : ℕ

-- the place reached
abbrev pub place : Parser ℕ
place = λ file at. found at at

-- component c: what its own parser reads, after the components before it
abbrev pub stretch_of : ℕ → Parser Stretch
stretch_of c = do
  n ← between limits 1 limits.components 3
  W ← between limits 0 limits.signals 3
  before ← components limits filled W c
  start ← place
  component limits filled W (driven_by 0 before)
  end ← place
  give (record { start = start; end = end })

-- faults of the file first, then 3 if there is no such component
abbrev pub located : List ℕ → ℕ → Got Stretch
located file c = on (read_file file) (λ k end. choose (ltb c (length k.components)) (stretch_of c file 0) (fault 3))

-- the two places, 0 where the question is refused
abbrev pub start_of : Got Stretch → ℕ
start_of (found s at) = s.start
start_of (fault r) = 0

abbrev pub end_of : Got Stretch → ℕ
end_of (found s at) = s.end
end_of (fault r) = 0

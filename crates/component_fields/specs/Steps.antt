-- What a list of signals answers: how many were listed, and a set with them besides.
use Rattle.std.specs.Prelude.{List, length, ℕ}
use Rattle.meaning.specs.File.Grammar.{with_all}
use Rattle.component_fields.specs.declared.Listed.{Listed}

abbrev pub counted : ℕ → List ℕ → Listed
counted known vs = record { count = length vs; known = with_all known vs }

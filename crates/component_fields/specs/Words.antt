-- The words of a component that are read before the first fault, and where they are laid in the lent arrays.
use Rattle.std.specs.Prelude.{List, [], ℕ, ◌-◌, ◌*◌, ◌^◌}
use Rattle.std.proofs.lemmas.List.Edits.{sets}
use Rattle.meaning.specs.File.Parser.{repeat}
use Rattle.meaning.specs.File.Grammar.{limits, most_states, most_nexts, between, filled_from}
use Rattle.parsing.specs.Faults.{where_found, signals_before, words_before}
use Rattle.component_fields.specs.Stages.{Rows}

-- the signals of a counted list
abbrev pub ports_before : ℕ → ℕ → ℕ → List ℕ → ℕ → List ℕ
ports_before most W taken file at = where_found [] (between limits 0 most 3 file at) (λ n next. signals_before W taken n file next)

abbrev pub no_rows : Rows
no_rows = record { outs = []; nexts = [] }

-- the words of a component with s states, i inputs and o outputs; its successor sets come after all its output words, and are filled
abbrev pub rows_before_of : ℕ → ℕ → ℕ → List ℕ → ℕ → Rows
rows_before_of s i o file at =
    record {
      outs = words_before 0 (2 ^ o - 1) s file at;
      nexts =
          where_found [] (repeat (between limits 0 (2 ^ o - 1) 6) s file at)
          (λ outs next. filled_from i 0 (words_before 0 (2 ^ s - 1) (s * 2 ^ i) file next));
    }

-- two lent arrays, and these words at the places of component c over what was there
abbrev pub lent : List ℕ → List ℕ → Rows
lent outs nexts = record { outs = outs; nexts = nexts }

abbrev pub laid_over : Rows → ℕ → Rows → Rows
laid_over words c l = lent (sets l.outs (most_states * c) words.outs) (sets l.nexts (most_nexts * c) words.nexts)

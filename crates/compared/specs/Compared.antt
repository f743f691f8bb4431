-- What is compared of a component's output words, from its lists and a set of signals; and which set of signals tells it.
use Rattle.std.specs.Prelude.{◌≡◌, List, length, get_or, ℕ}
use Rattle.words.specs.Sets.{built, has, intersection}
use Rattle.meaning.specs.Instrument.{components, table}
use Rattle.meaning.specs.File.Grammar.{Contents, instrument_of, most_states}
use Rattle.united.specs.Inputs.{read_by}
use Rattle.classes.specs.Rows.{padded}

-- those of the outputs that are in a set of signals, bit b for the b-th
abbrev pub outputs_in : List ℕ → ℕ → ℕ
outputs_in outputs read = built (length outputs) (λ b. has read (get_or outputs b 0))

-- their bits of each state's output word, and 0 past the last state
unfoldable pub compared_words : ℕ → List ℕ → List ℕ → ℕ → List ℕ
compared_words states outputs outs read = padded most_states states (λ x. intersection (outputs_in outputs read) (get_or outs x 0))

-- the set of the signals that some component of a file lists as an input
pub record ReadSignals (k : Contents) (read : ℕ) : Type 0 where
  pub members : (w : ℕ) → has read w ≡ read_by (components (instrument_of k)) (table (instrument_of k)) w

-- The fields of a component in the stages of the code.
use Rattle.std.specs.Prelude.{List, ℕ, ◌-◌, ◌*◌, ◌^◌}
use Rattle.meaning.specs.File.Parser.{Parser, ◌>>=◌, give, repeat}
use Rattle.meaning.specs.File.Grammar.{limits, between, filled_from, signals}

-- a count up to `most`, and so many signals that are not taken
abbrev pub ports : ℕ → ℕ → ℕ → Parser (List ℕ)
ports most W taken = do
  n ← between limits 0 most 3
  signals limits W taken n

-- the output words and the successor sets, filled, of a component with s states, i inputs and o outputs
pub record Rows : Type 0 where
  pub outs : List ℕ
  pub nexts : List ℕ

abbrev pub rows : ℕ → ℕ → ℕ → Parser Rows
rows s i o = do
  outs ← repeat (between limits 0 (2 ^ o - 1) 6) s
  nexts ← repeat (between limits 0 (2 ^ s - 1) 6) (s * 2 ^ i)
  give (record { outs = outs; nexts = filled_from i 0 nexts })

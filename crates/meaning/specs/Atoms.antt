-- What a formula names: a signal (document 01, The instrument file).
use Rattle.std.specs.Prelude.{List, ℕ}

pub data Atom : Type 0 where
  on_signal : ℕ → Atom

-- a named set of combined states, each a state for every component, in order (document 02, 13/14): no instrument file holds one
abbrev pub Set : Type 0
Set = List (List ℕ)

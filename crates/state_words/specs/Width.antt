-- The width of a set of states (document 02, 12/14): a component has at most so many states, and a set of them has a bit for each.
use Rattle.std.specs.Int.{Width, w64}
use Rattle.std.specs.Prelude.{ℕ}

abbrev pub state_bits : ℕ
state_bits = 64

-- the machine word of that width
abbrev pub state_word : Width
state_word = w64

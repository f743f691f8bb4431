-- Sets of small numbers as words, for every width: t is in w where digit t of w is 1 (document 01: "bit t for state t").
use Rattle.std.specs.Prelude.{Bool, not, cond, T, eqb, ℕ, zero, suc, ◌+◌, ◌-◌, ◌/◌, ◌%◌, ◌^◌, ◌≤◌, ◌<◌}
use Rattle.std.specs.Int.Bits.{bit_and, bit_or}

-- digit t of w, 0 or 1
unfoldable pub digit : ℕ → ℕ → ℕ
digit w t = w / 2 ^ t % 2

-- t is in w
abbrev pub has : ℕ → ℕ → Bool
has w t = eqb (digit w t) 1

-- the set of the numbers below n that pass a test
unfoldable pub built : ℕ → (ℕ → Bool) → ℕ
built zero f = 0
built (suc n) f = built n f + cond (f n) (2 ^ n) 0

-- w and t besides
unfoldable pub insert : ℕ → ℕ → ℕ
insert w t = bit_or w (2 ^ t)

-- what is in a or in b
unfoldable pub union : ℕ → ℕ → ℕ
union a b = bit_or a b

-- what is in a and in b
unfoldable pub intersection : ℕ → ℕ → ℕ
intersection a b = bit_and a b

-- what is below s
unfoldable pub below : ℕ → ℕ
below s = 2 ^ s - 1

-- what is below s and not in w
unfoldable pub complement : ℕ → ℕ → ℕ
complement s w = built s (λ t. not (has w t))

-- what is in w but for t, of the numbers below k
unfoldable pub without : ℕ → ℕ → ℕ → ℕ
without k w t = intersection w (complement k (insert 0 t))

-- everything in a is in b
unfoldable pub subset : ℕ → ℕ → Bool
subset a b = eqb (intersection a b) a

-- nothing is in w
unfoldable pub empty : ℕ → Bool
empty w = eqb w 0

-- the lowest member below k, and k if there is none
unfoldable pub lowest : ℕ → ℕ → ℕ
lowest zero w = 0
lowest (suc k) w = cond (eqb (w % 2) 1) 0 (suc (lowest k (w / 2)))

-- z is the lowest of the first k numbers that is in w
pub record Lowest (k w z : ℕ) : Type 0 where
  pub inside : z < k
  pub member : T (has w z)
  pub least : (t : ℕ) → T (has w t) → z ≤ t

-- how many members are below k
unfoldable pub size : ℕ → ℕ → ℕ
size zero w = 0
size (suc k) w = size k w + digit w k

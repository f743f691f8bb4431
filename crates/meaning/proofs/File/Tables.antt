-- What a component reads and drives; a table made of words has no dead end if no successor word is empty or too wide.
use mathlib.Core.Path.{◌≡◌}
use mathlib.Core.Logic.{◌≢◌}
use mathlib.Core.Bool.{Bool, ◌&&◌}
use mathlib.Core.List.{List}
use lib.Dec.{T, eqb}
use lib.ListN.{get_or, length}
use Prim.Native.Nat.{◌*◌, ◌+◌, ◌<◌, ◌^◌, ℕ}
use Rattle.words.proofs.Members.{some_member}
use Rattle.words.proofs.Built.{built_lt, built_same}
use Rattle.words.specs.Sets.{has}
use Rattle.meaning.specs.Table.{Table, Total, drives, from_words, owns, reading}
use Rattle.meaning.specs.Tests.{listed}
use Rattle.meaning.proofs.Basic.Booleans.{and_l}
use Rattle.meaning.proofs.Basic.Bounded.{any_in, any_out}
use Rattle.meaning.proofs.Basic.Lists.{at_listed}

-- a reading is an assignment, and speaks only of the inputs
pub reading_lt : (zs : List ℕ) (lv : ℕ → Bool) → reading zs lv < 2 ^ length zs
reading_lt zs lv = built_lt (length zs) (λ j. lv (get_or zs j 0))

pub reading_same : (zs : List ℕ) (f g : ℕ → Bool) → ((w : ℕ) → T (listed zs w) → f w ≡ g w) → reading zs f ≡ reading zs g
reading_same zs f g h =
    built_same (length zs) (λ j. f (get_or zs j 0)) (λ j. g (get_or zs j 0)) (λ j l. h (get_or zs j 0) (at_listed zs j l))

-- a table drives only its outputs
pub drives_owns : (t : Table) (x w : ℕ) → T (drives t x w) → T (owns t w)
drives_owns t x w h =
    let (j, l, e) = any_out (length t.outputs) (λ j. eqb (get_or t.outputs j 0) w && has (t.out x) j) h in
    any_in (length t.outputs) (λ j. eqb (get_or t.outputs j 0) w) j l (and_l (eqb (get_or t.outputs j 0) w) (has (t.out x) j) e)

-- the successor words that a reader accepts give a table without dead ends
pub from_total : (n : ℕ) (inputs outputs outs nexts : List ℕ)
    → ((x a : ℕ) → x < n → a < 2 ^ length inputs
    → (get_or nexts (2 ^ length inputs * x + a) 0 < 2 ^ n) × (get_or nexts (2 ^ length inputs * x + a) 0 ≢ 0))
    → Total (from_words n inputs outputs outs nexts)
from_total n inputs outputs outs nexts ok x a l k =
    let (p, z) = ok x a l k in
    let (y, m, h) = some_member n (get_or nexts (2 ^ length inputs * x + a) 0) p z in
    (y, (m, h))

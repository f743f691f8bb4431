-- Names of classes, and the count of them.
use mathlib.Core.Path.{◌≡◌}
use mathlib.Core.List.{List}
use lib.ListN.{get_or}
use native.Mathlib.Nat.{lt_of_lt_of_le}
use native.Mathlib.Numerals.{add-one}
use native.Mathlib.Omega.{arith}
use Prim.Native.Nat.{ℕ, ◌+◌, ◌≤◌, ◌<◌}
use borrow.Author.Tests.{eq-eqb, ne_eqb}
use Rattle.words.specs.Sets as sets
use Rattle.words.proofs.Counts.{lowest_is}
use Rattle.words.specs.Sets.{Lowest}
use Rattle.meaning.specs.Classes.{classes_below}
use Rattle.meaning.specs.Reference.Tests.{lowest}
use Rattle.meaning.proofs.Basic.Bounded.{lowest_hit, lowest_le}
use Rattle.meaning.specs.File.Grammar.{most_states}
use Rattle.state_words.specs.Width.{state_bits}
use Rattle.classes.specs.Rows.{rel}
use Rattle.class_names.specs.Names.{Inhabited}

-- the lowest member of a row
row_lowest : (n : ℕ) (r : List ℕ) (x : ℕ) → n ≤ most_states → Inhabited n r → x < n → Lowest state_bits (get_or r x 0) (sets.lowest state_bits (get_or r x 0))
row_lowest n r x m h l =
    let (i, k) = lowest_hit n (rel r x) (h.some x l) in
    lowest_is state_bits (get_or r x 0) (lowest n (rel r x)) (lt_of_lt_of_le k m) i

pub lowest_lt : (n : ℕ) (r : List ℕ) (x : ℕ) → n ≤ most_states → Inhabited n r → x < n → sets.lowest state_bits (get_or r x 0) < state_bits
lowest_lt n r x m h l = (row_lowest n r x m h l).inside

pub lowest_row : (n : ℕ) (r : List ℕ) (x : ℕ) → n ≤ most_states → Inhabited n r → x < n → sets.lowest state_bits (get_or r x 0) ≡ lowest n (rel r x)
lowest_row n r x m h l =
    let z = row_lowest n r x m h l in
    let (i, k) = lowest_hit n (rel r x) (h.some x l) in
    let a = z.least (lowest n (rel r x)) i in
    let b = lowest_le n (rel r x) (sets.lowest state_bits (get_or r x 0)) (omega arith) z.member in
    omega arith

-- one state more is counted where it is the name of its class
module _ (cls : ℕ → ℕ) (x : ℕ) where
  pub count_in : cls x ≡ x → classes_below cls x + 1 ≡ classes_below cls (x + 1)
  count_in e = rw (add-one x, eq-eqb (cls x) x e) (omega arith)

  pub count_out : (cls x ≡ x → ⊥) → classes_below cls x ≡ classes_below cls (x + 1)
  count_out z = rw (add-one x, ne_eqb (cls x) x z) (omega arith)

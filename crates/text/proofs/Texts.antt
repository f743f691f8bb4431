-- The digits of a number, and how many they are.
use mathlib.Core.Path.{◌≡◌, refl, ap, ◌∙◌}
use mathlib.Core.Bool.{Bool, true, false, cond}
use mathlib.Core.List.{List, [], ◌∷◌, ◌++◌}
use lib.Dec.{ltb}
use borrow.Author.Tests.{lt-ltb, le-ltb}
use lib.ListN.{length, length-append}
use native.Mathlib.Decide.{dec_lt}
use native.Mathlib.Nat.{pow-suc}
use native.Mathlib.Omega.{arith}
use Prim.Native.Nat.{ℕ, zero, suc, ◌+◌, ◌-◌, ◌*◌, ◌/◌, ◌%◌, ◌^◌, ◌≤◌, ◌<◌}
use Rattle.std.proofs.Common.{rules}
use Rattle.std.proofs.lemmas.Fmt.{decimal_from_appends, length-decimal-le}
use Rattle.std.specs.Fmt as std
use Rattle.answers.specs.Listing.{decimal, digits_of, most_digits}

-- they are those that std writes
pub decimal_std : (v : ℕ) → v < 2 ^ 64 → decimal v ≡ std.decimal v
unfolding decimal
decimal_std v h = decimal_from_appends digits_of (search rules) most_digits v h (length-decimal-le most_digits v (omega arith) (omega arith) h)

-- the digits of a number, its last one at the end
pub digits_none : (places v : ℕ) → places ≡ 0 → digits_of places v ≡ []
digits_none zero v e = refl
digits_none (suc places) v e = absurd (omega arith)

pub digits_low : (places v : ℕ) → 0 < places → v < 10 → digits_of places v ≡ (48 + v % 10) ∷ []
digits_low zero v p l = absurd (omega arith)
digits_low (suc places) v p l = ap (λ b. cond b [] (digits_of places (v / 10)) ++ ((48 + v % 10) ∷ [])) (lt-ltb v 10 l)

pub digits_high : (places v : ℕ) → 0 < places → 10 ≤ v → digits_of places v ≡ digits_of (places - 1) (v / 10) ++ ((48 + v % 10) ∷ [])
digits_high zero v p l = absurd (omega arith)
digits_high (suc places) v p l =
    let e : places ≡ suc places - 1 = omega arith in
    ap (λ b. cond b [] (digits_of places (v / 10)) ++ ((48 + v % 10) ∷ []))
    (le-ltb v 10 l)
    ∙ ap (λ k. digits_of k (v / 10) ++ ((48 + v % 10) ∷ [])) e

-- how many digits there are: one more than of the number without its last one, and as many as the value asks for
pub low_length : (places v : ℕ) → 0 < places → v < 10 → length (digits_of places v) ≡ 1
low_length places v p l = ap length (digits_low places v p l)

pub high_length : (places v : ℕ) → 0 < places → 10 ≤ v → length (digits_of places v) ≡ length (digits_of (places - 1) (v / 10)) + 1
high_length places v p l =
    ap length (digits_high places v p l) ∙ length-append (digits_of (places - 1) (v / 10)) ((48 + v % 10) ∷ [])

shorter : (b : Bool) (l : List ℕ) (n : ℕ) → length l ≤ n → length (cond b [] l) ≤ n
shorter true l n h = omega arith
shorter false l n h = h

pub digits_most : (places v : ℕ) → length (digits_of places v) ≤ places
digits_most zero v = omega arith
digits_most (suc places) v =
    omega (
      arith,
      length-append (cond (ltb v 10) [] (digits_of places (v / 10))) ((48 + v % 10) ∷ []),
      shorter (ltb v 10) (digits_of places (v / 10)) places (digits_most places (v / 10)),
    )

pub digits_few : (places k v : ℕ) → 0 < k → v < 10 ^ k → length (digits_of places v) ≤ k
digits_few zero k v p h = omega arith
digits_few (suc places) zero v p h = absurd (omega arith)
digits_few (suc places) (suc k) v p h =
    elim (dec_lt v 10) [
      | yes l ↦ omega (arith, low_length (suc places) v (omega arith) l)
      | no l ↦ more k (omega arith) (rw (pow-suc 10 k) at h) (λ q r. digits_few places k (v / 10) q r)
    ]
  where
    more : (k : ℕ) → 10 ≤ v → v < 10 ^ k * 10 → (0 < k → v / 10 < 10 ^ k → length (digits_of places (v / 10)) ≤ k) → length (digits_of (suc places) v) ≤ suc k
    more zero l h f = absurd (omega arith)
    more (suc k) l h f =
        let e : suc places - 1 ≡ places = omega arith in
        let m : length (digits_of (suc places - 1) (v / 10)) ≤ suc k = rw e (f (omega arith) (omega arith)) in
        omega (arith, high_length (suc places) v (omega arith) l, m)

-- every number has at most as many as there are places
pub decimal_most : (v : ℕ) → length (decimal v) ≤ most_digits
unfolding decimal
decimal_most v = digits_most most_digits v

-- a number below 10 ^ k has at most k digits
pub decimal_few : (k v : ℕ) → 0 < k → v < 10 ^ k → length (decimal v) ≤ k
unfolding decimal
decimal_few k v p h = digits_few most_digits k v p h

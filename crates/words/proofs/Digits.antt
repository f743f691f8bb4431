-- The digits of a word, as numbers 0 and 1, over ℕ: of the lowest digit and the rest, of a power, of bitwise operations, of words below a
-- power, of shifted words. A word of k digits is fixed by them.
use mathlib.Core.Path.{◌≡◌, refl, sym, ap, ◌∙◌}
use Prim.Native.Nat.{ℕ, zero, suc, ◌+◌, ◌-◌, ◌*◌, ◌/◌, ◌%◌, ◌^◌, min, max, ◌≤◌, ◌<◌, zero-le}
use native.Mathlib.Nat.{one-mul, mod-eq_of_lt, mod-lt, div-eq_of_lt, lt_of_lt_of_le, pow-suc, div-one, mul-one, not-suc-le-zero}
use native.Mathlib.Numerals.{add-one}
use native.Mathlib.Omega.{arith}
use lib.Dec.{lit<}
use lib.Bits.{bit_and, bit_or, and_shr, or_shr, and_step, or_step, shifted_half, shifted_even}
use lib.Pow.{pow_pos, pow_mono, pow-lt, shr-shr, shr_lt, field, mod-mod-pow}
use Rattle.words.specs.Sets.{digit}

pub digit_lt : (w t : ℕ) → digit w t < 2
unfolding digit
digit_lt w t = mod-lt (w / 2 ^ t) (lit< tt)

-- the lowest digit, and the others
pub digit_zero : (w : ℕ) → digit w 0 ≡ w % 2
unfolding digit
digit_zero w = rw (div-one w)

pub digit_suc : (w t : ℕ) → digit w (suc t) ≡ digit (w / 2) t
unfolding digit
digit_suc w t =
    let e : w / 2 / 2 ^ t ≡ w / 2 ^ (1 + t) = shr-shr w 1 t in
    let f : 1 + t ≡ suc t = omega arith in
    sym (rw (e, f))

-- the digits of a bitwise result
and_low : (a b : ℕ) → bit_and a b % 2 ≡ min (a % 2) (b % 2)
and_low a b = rw (and_step a b) (omega (arith, mod-lt a {m = 2} (lit< tt), mod-lt b {m = 2} (lit< tt)))

or_low : (a b : ℕ) → bit_or a b % 2 ≡ max (a % 2) (b % 2)
or_low a b = rw (or_step a b) (omega (arith, mod-lt a {m = 2} (lit< tt), mod-lt b {m = 2} (lit< tt)))

pub digit_and : (a b t : ℕ) → digit (bit_and a b) t ≡ min (digit a t) (digit b t)
unfolding digit
digit_and a b t = rw (and_shr a b t) (and_low (a / 2 ^ t) (b / 2 ^ t))

pub digit_or : (a b t : ℕ) → digit (bit_or a b) t ≡ max (digit a t) (digit b t)
unfolding digit
digit_or a b t = rw (or_shr a b t) (or_low (a / 2 ^ t) (b / 2 ^ t))

-- a word below 2 ^ k has no digit from k on
pub digit_past : (k w t : ℕ) → w < 2 ^ k → k ≤ t → digit w t ≡ 0
unfolding digit
digit_past k w t h p = rw (div-eq_of_lt {n = w} {m = 2 ^ t} (lt_of_lt_of_le h (pow_mono p)))

pub digit_none : (t : ℕ) → digit 0 t ≡ 0
digit_none t = digit_past 0 0 t (lit< tt) zero-le

-- words below 2 ^ k with the same digits are equal
pub same_digits : (k a b : ℕ) → a < 2 ^ k → b < 2 ^ k → ((t : ℕ) → t < k → digit a t ≡ digit b t) → a ≡ b
same_digits zero a b p q h = omega arith
same_digits (suc k) a b p q h =
    let e =
    same_digits k (a / 2) (b / 2) (shr_lt k 1 (rw (← add-one k) at p)) (shr_lt k 1 (rw (← add-one k) at q))
    (λ t l. sym (digit_suc a t) ∙ h (suc t) (omega arith) ∙ digit_suc b t)
    in
    let f : a % 2 ≡ b % 2 = sym (digit_zero a) ∙ h 0 (omega arith) ∙ digit_zero b in
    omega arith

pub double : (s : ℕ) → 2 ^ suc s ≡ 2 ^ s * 2
double s = pow-suc 2 s

-- the code's shifted one, in words of k digits
pub power_word : (k t : ℕ) → t < k → 1 * 2 ^ t % 2 ^ k ≡ 2 ^ t
power_word k t l = rw (one-mul (2 ^ t)) (mod-eq_of_lt (pow-lt l))

-- the digits of a power
pub power_here : (s : ℕ) → digit (2 ^ s) s ≡ 1
power_here zero = digit_zero 1
power_here (suc s) =
    let e : 2 ^ suc s / 2 ≡ 2 ^ s = omega (arith, double s) in
    digit_suc (2 ^ suc s) s ∙ rw e (power_here s)

pub power_elsewhere : (s t : ℕ) → (s ≡ t → ⊥) → digit (2 ^ s) t ≡ 0
power_elsewhere zero zero h = absurd (h refl)
power_elsewhere zero (suc t) h = digit_suc 1 t ∙ digit_none t
power_elsewhere (suc s) zero h = digit_zero (2 ^ suc s) ∙ omega (arith, double s)
power_elsewhere (suc s) (suc t) h =
    let e : 2 ^ suc s / 2 ≡ 2 ^ s = omega (arith, double s) in
    digit_suc (2 ^ suc s) t ∙ rw e (power_elsewhere s t (λ p. h (ap suc p)))

-- a power put above a word
pub digit_above : (n r t : ℕ) → r < 2 ^ n → t < n → digit (r + 2 ^ n) t ≡ digit r t
digit_above zero r t p h = absurd (not-suc-le-zero h)
digit_above (suc n) r zero p h = digit_zero (r + 2 ^ suc n) ∙ (omega (arith, double n) ∙ sym (digit_zero r))
digit_above (suc n) r (suc t) p h =
    let e : (r + 2 ^ suc n) / 2 ≡ r / 2 + 2 ^ n = omega (arith, double n) in
    digit_suc (r + 2 ^ suc n) t ∙ (rw e (digit_above n (r / 2) t (omega (arith, double n)) (omega arith)) ∙ sym (digit_suc r t))

pub digit_top : (n r : ℕ) → r < 2 ^ n → digit (r + 2 ^ n) n ≡ 1
digit_top zero r p = digit_zero (r + 2 ^ 0) ∙ omega arith
digit_top (suc n) r p =
    let e : (r + 2 ^ suc n) / 2 ≡ r / 2 + 2 ^ n = omega (arith, double n) in
    digit_suc (r + 2 ^ suc n) n ∙ rw e (digit_top n (r / 2) (omega (arith, double n)))

-- the digits of all ones, and of what a word lacks to that
pub digit_ones : (k t : ℕ) → t < k → digit (2 ^ k - 1) t ≡ 1
digit_ones zero t h = absurd (not-suc-le-zero h)
digit_ones (suc k) zero h = digit_zero (2 ^ suc k - 1) ∙ omega (arith, double k, pow_pos k)
digit_ones (suc k) (suc t) h =
    let e : (2 ^ suc k - 1) / 2 ≡ 2 ^ k - 1 = omega (arith, double k, pow_pos k) in
    digit_suc (2 ^ suc k - 1) t ∙ rw e (digit_ones k t (omega arith))

pub digit_not : (k w t : ℕ) → w < 2 ^ k → t < k → digit ((2 ^ k - 1) - w) t ≡ 1 - digit w t
digit_not zero w t p h = absurd (not-suc-le-zero h)
digit_not (suc k) w zero p h = rw (digit_zero ((2 ^ suc k - 1) - w), digit_zero w) (omega (arith, double k, pow_pos k))
digit_not (suc k) w (suc t) p h =
    let e : ((2 ^ suc k - 1) - w) / 2 ≡ (2 ^ k - 1) - w / 2 = omega (arith, double k, pow_pos k) in
    rw (digit_suc ((2 ^ suc k - 1) - w) t, digit_suc w t, e) (digit_not k (w / 2) t (omega (arith, double k)) (omega arith))

-- ---- shifted words: the code's `v << b` is v * 2 ^ b cut to the word's digits, `v >> c` is v / 2 ^ c
pub digit_cut : (k w t : ℕ) → t < k → digit (w % 2 ^ k) t ≡ digit w t
digit_cut zero w t h = absurd (not-suc-le-zero h)
digit_cut (suc k) w zero h =
    let e : w % 2 ^ suc k % 2 ≡ w % 2 = rw (← add-one k) (mod-mod-pow w k 1) in
    digit_zero (w % 2 ^ suc k) ∙ e ∙ sym (digit_zero w)
digit_cut (suc k) w (suc t) h =
    let e : w % 2 ^ suc k / 2 ≡ w / 2 % 2 ^ k = rw (← add-one k) (field w k 1) in
    digit_suc (w % 2 ^ suc k) t ∙ rw e (digit_cut k (w / 2) t (omega arith)) ∙ sym (digit_suc w t)

pub digit_raised : (w b t : ℕ) → digit (w * 2 ^ b) (b + t) ≡ digit w t
digit_raised w zero t = let e : zero + t ≡ t = omega arith in rw (e, mul-one w)
digit_raised w (suc b) t =
    let e : suc b + t ≡ suc (b + t) = omega arith in
    rw e (digit_suc (w * 2 ^ suc b) (b + t) ∙ rw (shifted_half w b) (digit_raised w b t))

pub digit_under : (w b t : ℕ) → t < b → digit (w * 2 ^ b) t ≡ 0
digit_under w zero t h = absurd (not-suc-le-zero h)
digit_under w (suc b) zero h = digit_zero (w * 2 ^ suc b) ∙ shifted_even w b
digit_under w (suc b) (suc t) h = digit_suc (w * 2 ^ suc b) t ∙ rw (shifted_half w b) (digit_under w b t (omega arith))

pub digit_lowered : (w c t : ℕ) → digit (w / 2 ^ c) t ≡ digit w (c + t)
unfolding digit
digit_lowered w c t = rw (shr-shr w c t)

-- The lowest member of a set and the number of its members: laws over ℕ, for every width.
use mathlib.Core.Path.{◌∙◌, ◌≡◌, ap, refl, sym}
use mathlib.Core.Bool.{cond}
use lib.Count.{ones, ones_step, count_trailing_zeros, under}
use lib.Dec.{T, eqb}
use native.Mathlib.Nat.{not-suc-le-zero}
use native.Mathlib.Omega.{arith}
use Prim.Native.Nat.{◌%◌, ◌+◌, ◌/◌, ◌<◌, ◌^◌, suc, zero, ℕ}
use Rattle.words.proofs.Digits.{digit_suc, digit_zero, double}
use Rattle.words.proofs.Members.{has_one, one_has}
use Rattle.words.specs.Sets.{Lowest, has, lowest, size}

-- the lowest member
low_test : (d x : ℕ) → d < 2 → under d x ≡ cond (eqb d 1) 0 (suc x)
low_test zero x p = refl
low_test (suc zero) x p = refl
low_test (suc (suc d)) x p = absurd (omega arith)

pub trailing_lowest : (k w : ℕ) → count_trailing_zeros k w ≡ lowest k w
unfolding count_trailing_zeros lowest
trailing_lowest zero w = refl
trailing_lowest (suc k) w =
    low_test (w % 2) (count_trailing_zeros k (w / 2)) (omega arith) ∙ ap (λ z. cond (eqb (w % 2) 1) 0 (suc z)) (trailing_lowest k (w / 2))

pub lowest_is : (k w t : ℕ) → t < k → T (has w t) → Lowest k w (lowest k w)
unfolding lowest
lowest_is zero w t l h = absurd (not-suc-le-zero l)
lowest_is (suc k) w t l h = go (w % 2) refl (lowest_is k (w / 2))
  where
    shifted : (u : ℕ) → T (has w (suc u)) → T (has (w / 2) u)
    shifted u i = one_has (w / 2) u (sym (digit_suc w u) ∙ has_one w (suc u) i)

    high : w % 2 ≡ 0 → (u : ℕ) → T (has w u) → (v : ℕ) × (u ≡ suc v) × T (has (w / 2) v)
    high e zero i = absurd (omega (arith, e, digit_zero w, has_one w 0 i))
    high e (suc u) i = (u, refl, shifted u i)

    go : (d : ℕ) → w % 2 ≡ d → ((u : ℕ) → u < k → T (has (w / 2) u) → Lowest k (w / 2) (lowest k (w / 2)))
        → Lowest (suc k) w (cond (eqb d 1) 0 (suc (lowest k (w / 2))))
    go zero e ih =
        let (u, p, i) = high e t h in
        let r = ih u (omega arith) i in
        record {
          inside = omega (arith, r.inside);
          member = one_has w (suc (lowest k (w / 2))) (digit_suc w (lowest k (w / 2)) ∙ has_one (w / 2) (lowest k (w / 2)) r.member);
          least = λ v j. let (x, q, m) = high e v j in omega (arith, r.least x m, q);
        }
    go (suc zero) e ih = record { inside = omega arith; member = one_has w 0 (digit_zero w ∙ e); least = λ v j. omega arith }
    go (suc (suc d)) e ih = absurd (omega arith)

-- the number of members
size_low : (k w : ℕ) → size (suc k) w ≡ w % 2 + size k (w / 2)
unfolding size
size_low zero w = rw (digit_zero w) (omega arith)
size_low (suc k) w = rw (size_low k w, digit_suc w k) (omega arith)

ones_none : ones 0 ≡ 0
unfolding ones
ones_none = refl

pub ones_size : (k w : ℕ) → w < 2 ^ k → ones w ≡ size k w
unfolding size
ones_size zero w h = let e : w ≡ 0 = omega arith in rw e ones_none
ones_size (suc k) w h = rw (ones_step w, size_low k w, ones_size k (w / 2) (omega (arith, double k)))

-- A word and the word before it have the same members but for the lowest and those under it: laws over ℕ, for every width.
use mathlib.Core.Path.{◌≡◌, refl, sym, subst, ap, ◌∙◌}
use mathlib.Core.Logic.{◌≢◌}
use mathlib.Core.Bool.{Bool, true, false}
use lib.Bits.{bit_and}
use lib.Dec.{T, eqb}
use native.Mathlib.Decide.{dec_lt, ℕ_discrete}
use native.Mathlib.Omega.{arith}
use Prim.Native.Nat.{ℕ, zero, suc, ◌-◌, ◌/◌, ◌%◌, ◌^◌, ◌<◌}
use Rattle.words.specs.Sets.{digit, has, insert, intersection, complement, without, Lowest}
use Rattle.words.proofs.Digits.{digit_and, digit_lt, digit_suc, digit_zero}
use Rattle.words.proofs.Members.{has_one, one_has, not_has, same_members, intersection_lt}
use Rattle.words.proofs.Built.{less_out, less_same}

-- above a member the word before has the same digits
above_odd : (w t : ℕ) → w % 2 ≡ 1 → 0 < t → digit (w - 1) t ≡ digit w t
above_odd w zero o l = absurd (omega arith)
above_odd w (suc t) o l =
    let e : (w - 1) / 2 ≡ w / 2 = omega arith in
    digit_suc (w - 1) t ∙ (ap (λ v. digit v t) e ∙ sym (digit_suc w t))

before_above : (w s t : ℕ) → digit w s ≡ 1 → s < t → digit (w - 1) t ≡ digit w t
before_above w zero t h l = above_odd w t (sym (digit_zero w) ∙ h) l
before_above w (suc s) zero h l = absurd (omega arith)
before_above w (suc s) (suc t) h l =
    elim (ℕ_discrete (w % 2) 1) [
      | yes o ↦ above_odd w (suc t) o (omega arith)
      | no o ↦
          let e : (w - 1) / 2 ≡ w / 2 - 1 = omega arith in
          let i = before_above (w / 2) s t (sym (digit_suc w s) ∙ h) (omega arith) in
          digit_suc (w - 1) t ∙ (ap (λ v. digit v t) e ∙ (i ∙ sym (digit_suc w t)))
    ]

-- at the lowest member it has none
before_lowest : (w z : ℕ) → digit w z ≡ 1 → ((t : ℕ) → t < z → digit w t ≡ 0) → digit (w - 1) z ≡ 0
before_lowest w zero h n = omega (arith, digit_zero w, digit_zero (w - 1))
before_lowest w (suc z) h n =
    let o : w % 2 ≡ 0 = sym (digit_zero w) ∙ n zero (omega arith) in
    let i : digit (w / 2) z ≡ 1 = sym (digit_suc w z) ∙ h in
    let e : (w - 1) / 2 ≡ w / 2 - 1 = omega arith in
    digit_suc (w - 1) z
    ∙ (ap (λ v. digit v z) e ∙ before_lowest (w / 2) z i (λ t l. sym (digit_suc w t) ∙ n (suc t) (omega arith)))

refuted : (b : Bool) → (T b → ⊥) → false ≡ b
refuted true n = absurd (n tt)
refuted false n = refl

-- w & (w - 1)
module _ {k w z : ℕ} (l : Lowest k w z) where
  under : (t : ℕ) → t < z → digit w t ≡ 0
  under t p =
      elim (ℕ_discrete (digit w t) 1) [
        | yes e ↦ absurd (omega (arith, l.least t (one_has w t e)))
        | no e ↦ omega (arith, digit_lt w t)
      ]

  gone : digit (bit_and w (w - 1)) z ≡ 0
  gone = omega (arith, digit_and w (w - 1) z, before_lowest w z (has_one w z l.member) under)

  left : (t : ℕ) → z ≢ t → digit (bit_and w (w - 1)) t ≡ digit w t
  left t n =
      elim (dec_lt t z) [
        | yes p ↦ omega (arith, digit_and w (w - 1) t, under t p)
        | no p ↦ omega (arith, digit_and w (w - 1) t, before_above w z t (has_one w z l.member) (omega arith))
      ]

  pub lowest_removed : w < 2 ^ k → bit_and w (w - 1) ≡ without k w z
  unfolding without intersection
  lowest_removed f =
      same_members k (bit_and w (w - 1)) rest (intersection_lt k w (w - 1) f) (intersection_lt k w (complement k (insert 0 z)) f) (λ t p.
      elim (ℕ_discrete z t) [
        | yes e ↦
            not_has (bit_and w (w - 1)) t (subst (λ t. digit (bit_and w (w - 1)) t ≡ 0) e gone)
            ∙ refuted (has rest t) (λ h. (less_out k w z t h).0 e)
        | no n ↦ ap (λ d. eqb d 1) (left t n) ∙ sym (less_same k w z t p n)
      ])
    where
      rest : ℕ
      rest = intersection w (complement k (insert 0 z))

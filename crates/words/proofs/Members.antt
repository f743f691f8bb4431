-- What the definitions of specs/Sets say of membership: laws over ℕ, for every width.
use mathlib.Core.Path.{◌∙◌, ◌≡◌, ap, refl, subst, sym}
use mathlib.Core.Logic.{◌↔◌, ◌≢◌, ◌⊎◌, inl, inr}
use mathlib.Core.Bool.{Bool, ◌&&◌, ◌||◌, false, not, true}
use lib.Bits.{and_le_l, and_le_r, bit_and, bit_or, or_add_and, or_lt, or_shifted_r}
use lib.Dec.{T, eqb, eqb_refl, eqb→eq, not_T}
use lib.Pow.{pow_pos}
use native.Mathlib.Decide.{dec_lt, ℕ_discrete}
use native.Mathlib.Nat.{one-mul}
use native.Mathlib.Omega.{arith}
use Prim.Native.Nat.{◌%◌, ◌+◌, ◌/◌, ◌<◌, ◌^◌, ◌≤◌, max, min, suc, zero, ℕ}
use Rattle.words.proofs.Digits.{digit_and, digit_lt, digit_none, digit_ones, digit_or, digit_past, digit_suc, digit_zero, double}
use Rattle.words.proofs.Digits.{power_elsewhere, power_here, same_digits}
use Rattle.words.specs.Sets.{below, digit, empty, has, insert, intersection, subset, union}

-- a test and a certainty
pub and_true : (b : Bool) → (b && true) ≡ b
and_true true = refl
and_true false = refl

-- digits and tests of them
pub has_one : (w t : ℕ) → T (has w t) → digit w t ≡ 1
has_one w t h = eqb→eq (digit w t) 1 h

pub one_has : (w t : ℕ) → digit w t ≡ 1 → T (has w t)
one_has w t e = subst (λ d. T (eqb d 1)) (sym e) tt

pub not_has : (w t : ℕ) → digit w t ≡ 0 → has w t ≡ false
not_has w t e = ap (λ d. eqb d 1) e

or_test : (a b : ℕ) → a < 2 → b < 2 → eqb (max a b) 1 ≡ (eqb a 1 || eqb b 1)
or_test zero zero p q = refl
or_test zero (suc zero) p q = refl
or_test (suc zero) zero p q = refl
or_test (suc zero) (suc zero) p q = refl
or_test zero (suc (suc b)) p q = absurd (omega arith)
or_test (suc zero) (suc (suc b)) p q = absurd (omega arith)
or_test (suc (suc a)) b p q = absurd (omega arith)

and_test : (a b : ℕ) → a < 2 → b < 2 → eqb (min a b) 1 ≡ (eqb a 1 && eqb b 1)
and_test zero zero p q = refl
and_test zero (suc zero) p q = refl
and_test (suc zero) zero p q = refl
and_test (suc zero) (suc zero) p q = refl
and_test zero (suc (suc b)) p q = absurd (omega arith)
and_test (suc zero) (suc (suc b)) p q = absurd (omega arith)
and_test (suc (suc a)) b p q = absurd (omega arith)

same_test : (a b : ℕ) → a < 2 → b < 2 → eqb a 1 ≡ eqb b 1 → a ≡ b
same_test zero zero p q h = refl
same_test zero (suc zero) p q h = absurd (subst T (sym h) tt)
same_test (suc zero) zero p q h = absurd (subst T h tt)
same_test (suc zero) (suc zero) p q h = refl
same_test zero (suc (suc b)) p q h = absurd (omega arith)
same_test (suc zero) (suc (suc b)) p q h = absurd (omega arith)
same_test (suc (suc a)) b p q h = absurd (omega arith)

-- words below 2 ^ k with the same members are equal
pub same_members : (k a b : ℕ) → a < 2 ^ k → b < 2 ^ k → ((t : ℕ) → t < k → has a t ≡ has b t) → a ≡ b
same_members k a b p q h = same_digits k a b p q (λ t l. same_test (digit a t) (digit b t) (digit_lt a t) (digit_lt b t) (h t l))

-- a word below 2 ^ k has only members below k
pub has_lt : (k w t : ℕ) → w < 2 ^ k → T (has w t) → t < k
has_lt k w t p h =
    elim (dec_lt t k) [
      | yes l ↦ l
      | no l ↦ let z = digit_past k w t p (omega arith) in let o = has_one w t h in absurd (omega arith)
    ]

pub has_none : (t : ℕ) → has 0 t ≡ false
has_none t = not_has 0 t (digit_none t)

-- ---- the operations
pub has_union : (a b t : ℕ) → has (union a b) t ≡ (has a t || has b t)
unfolding union
has_union a b t = ap (λ d. eqb d 1) (digit_or a b t) ∙ or_test (digit a t) (digit b t) (digit_lt a t) (digit_lt b t)

pub union_lt : (k a b : ℕ) → a < 2 ^ k → b < 2 ^ k → union a b < 2 ^ k
unfolding union
union_lt k a b p q = or_lt k a b p q

pub union_none : (a b : ℕ) → union a b ≡ 0 → (a ≡ 0) × (b ≡ 0)
unfolding union
union_none a b e = (omega (arith, or_add_and a b, and_le_r a b), omega (arith, or_add_and a b, and_le_l a b))

pub has_intersection : (a b t : ℕ) → has (intersection a b) t ≡ (has a t && has b t)
unfolding intersection
has_intersection a b t = ap (λ d. eqb d 1) (digit_and a b t) ∙ and_test (digit a t) (digit b t) (digit_lt a t) (digit_lt b t)

pub intersection_lt : (k a b : ℕ) → a < 2 ^ k → intersection a b < 2 ^ k
unfolding intersection
intersection_lt k a b p = omega (arith, and_le_l a b)

pub intersection_lt_r : (k a b : ℕ) → b < 2 ^ k → intersection a b < 2 ^ k
unfolding intersection
intersection_lt_r k a b p = omega (arith, and_le_r a b)

pub has_insert : (w t : ℕ) → T (has (insert w t) t)
unfolding insert
has_insert w t =
    one_has (bit_or w (2 ^ t)) t (digit_or w (2 ^ t) t ∙ omega (arith, power_here t, digit_lt w t))

pub insert_others : (w t u : ℕ) → t ≢ u → has (insert w t) u ≡ has w u
unfolding insert
insert_others w t u z =
    let e : digit (bit_or w (2 ^ t)) u ≡ digit w u = digit_or w (2 ^ t) u ∙ omega (arith, power_elsewhere t u z) in
    ap (λ d. eqb d 1) e

-- what was in the set is in it with t besides, and only that and t are
pub insert_in : (w t u : ℕ) → T (has w u) → T (has (insert w t) u)
insert_in w t u h =
    elim (ℕ_discrete t u) [
      | yes e ↦ subst (λ u. T (has (insert w t) u)) e (has_insert w t)
      | no z ↦ subst T (sym (insert_others w t u z)) h
    ]

pub insert_out : (w t u : ℕ) → T (has (insert w t) u) → T (has w u) ⊎ (t ≡ u)
insert_out w t u h = elim (ℕ_discrete t u) [ yes e ↦ inr e | no z ↦ inl (subst T (insert_others w t u z) h) ]

-- w and t besides has what w has, and t
pub insert_iff : (w t u : ℕ) → T (has (insert w t) u) ↔ (T (has w u) ⊎ (t ≡ u))
insert_iff w t u =
    elim (ℕ_discrete t u) [
      | yes e ↦ (λ h. inr e, λ h. subst (λ u. T (has (insert w t) u)) e (has_insert w t))
      | no z ↦ (
        λ h. inl (subst T (insert_others w t u z) h),
        λ h. elim h [ inl i ↦ subst T (sym (insert_others w t u z)) i | inr e ↦ absurd (z e) ],
      )
    ]

-- a number above all members
pub insert_top : (k w : ℕ) → w < 2 ^ k → insert w k ≡ w + 2 ^ k
unfolding insert
insert_top k w p = ap (λ z. bit_or w z) (sym (one-mul (2 ^ k))) ∙ (or_shifted_r 1 k w p ∙ omega arith)

pub has_below : (s t : ℕ) → t < s → has (below s) t ≡ true
unfolding below
has_below s t l = ap (λ d. eqb d 1) (digit_ones s t l)

pub below_lt : (s : ℕ) → below s < 2 ^ s
unfolding below
below_lt s = omega (arith, pow_pos s)

-- an intersection is at most either word, and a union at least
pub intersection_le : (a b : ℕ) → intersection a b ≤ a
unfolding intersection
intersection_le a b = and_le_l a b

pub intersection_le_r : (a b : ℕ) → intersection a b ≤ b
unfolding intersection
intersection_le_r a b = and_le_r a b

pub union_ge : (a b : ℕ) → a ≤ union a b
unfolding union
union_ge a b = omega (arith, or_add_and a b, and_le_r a b)

pub subset_out : (a b : ℕ) → T (subset a b) → (t : ℕ) → T (has a t) → T (has b t)
unfolding subset intersection
subset_out a b h t i =
    let e : digit (bit_and a b) t ≡ digit a t = ap (λ w. digit w t) (eqb→eq (bit_and a b) a h) in
    one_has b t (omega (arith, e, digit_and a b t, has_one a t i, digit_lt b t))

pub subset_in : (k a b : ℕ) → a < 2 ^ k → ((t : ℕ) → t < k → T (has a t) → T (has b t)) → T (subset a b)
unfolding subset intersection
subset_in k a b p h = subst (λ z. T (eqb z a)) (sym e) (eqb_refl a)
  where
    inside : (t : ℕ) → t < k → digit a t ≤ digit b t
    inside t l =
        elim (ℕ_discrete (digit a t) 1) [
          | yes o ↦ omega (arith, has_one b t (h t l (one_has a t o)))
          | no o ↦ omega (arith, digit_lt a t)
        ]

    e : bit_and a b ≡ a
    e = same_digits k (bit_and a b) a (omega (arith, and_le_l a b)) p (λ t l. digit_and a b t ∙ omega (arith, inside t l))

pub subset_le : (a b : ℕ) → T (subset a b) → a ≤ b
unfolding subset intersection
subset_le a b h = omega (arith, eqb→eq (bit_and a b) a h, and_le_r a b)

pub empty_out : (w : ℕ) → T (empty w) → (t : ℕ) → has w t ≡ false
unfolding empty
empty_out w h t = ap (λ w. has w t) (eqb→eq w 0 h) ∙ has_none t

-- a word below 2 ^ k that is not 0 has a member
pub some_member : (k w : ℕ) → w < 2 ^ k → w ≢ 0 → (t : ℕ) × (t < k) × T (has w t)
some_member zero w p z = absurd (omega arith)
some_member (suc k) w p z = go (w % 2) refl (some_member k (w / 2) (omega (arith, double k)))
  where
    go : (d : ℕ) → w % 2 ≡ d → (w / 2 ≢ 0 → (t : ℕ) × (t < k) × T (has (w / 2) t)) → (t : ℕ) × (t < suc k) × T (has w t)
    go zero e ih =
        let (t, l, h) = ih (omega arith) in
        (suc t, omega (arith, l), one_has w (suc t) (digit_suc w t ∙ has_one (w / 2) t h))
    go (suc zero) e ih = (0, omega arith, one_has w 0 (digit_zero w ∙ e))
    go (suc (suc d)) e ih = absurd (omega arith)

-- words that have a common member
pub common_in : (a b t : ℕ) → T (has a t) → T (has b t) → T (not (empty (intersection a b)))
unfolding intersection
common_in a b t h i =
    let o : digit (bit_and a b) t ≡ 1 = digit_and a b t ∙ omega (arith, has_one a t h, has_one b t i) in
    not_T (empty (bit_and a b)) (λ e. subst T (empty_out (bit_and a b) e t) (one_has (bit_and a b) t o))

-- Reading decimal digits one after the other.
use mathlib.Core.Path.{◌≡◌, refl, sym, subst, ap, ◌∙◌}
use mathlib.Core.Logic.{inl, inr}
use mathlib.Core.Bool.{Bool, true, ◌&&◌}
use mathlib.Core.List.{List}
use lib.Dec.{T, leb, leb→le, le→leb}
use lib.ListN.{length, get_or}
use native.Mathlib.Decide.{dec_lt}
use native.Mathlib.Omega.{arith}
use native.Mathlib.Nat.{pow-suc}
use Prim.Native.Nat.{ℕ, zero, suc, ◌+◌, ◌-◌, ◌*◌, ◌^◌, ◌≤◌, ◌<◌}
use Rattle.meaning.specs.Reference.Tests.{all_below}
use Rattle.meaning.proofs.Basic.Booleans.{and_in, and_l, and_r, is_true, is_false}
use Rattle.meaning.proofs.Basic.Bounded.{all_out, last_or}
use Rattle.std.specs.Prelude.{Option, Some, None}
use Rattle.answers.specs.Questions.{digit_at, value_before, is_number}
use Rattle.arguments.specs.Decimal.{number_in, Digits}

ten_up : (n i : ℕ) → i < suc n → 10 ^ i ≤ 10 ^ n
ten_up zero i l = let e : i ≡ 0 = omega arith in rw e (omega arith)
ten_up (suc n) i l =
    elim (last_or i (suc n) l) [
      | inl e ↦ rw e (omega arith)
      | inr k ↦ omega (arith, ten_up n i k, pow-suc 10 n)
    ]

module _ (text : List ℕ) where
  pub start : 1 ≤ length text → length text ≤ 10 → Digits text 0 0
  start l h = record { reached = omega arith; short = h; some = l; small = omega arith; value = refl; all = refl }

  pub more : {i v : ℕ} → i < length text → 48 ≤ get_or text i 0 → get_or text i 0 ≤ 57 → Digits text i v
      → Digits text (i + 1) (10 * v + (get_or text i 0 - 48))
  more {i} {v} l lo hi d =
      subst (λ k. Digits text k (10 * v + (get_or text i 0 - 48))) (next i)
      (record {
        reached = omega arith;
        short = d.short;
        some = d.some;
        small = omega (arith, d.small, pow-suc 10 i);
        value = ap (λ w. 10 * w + (get_or text i 0 - 48)) d.value;
        all = rw (is_true (digit_at text i) (and_in (leb 48 (get_or text i 0)) (leb (get_or text i 0) 57) (le→leb 48 (get_or text i 0) lo) (le→leb (get_or text i 0) 57 hi)), d.all) refl;
      })
    where
      next : (i : ℕ) → suc i ≡ i + 1
      next i = omega arith

  -- a value of so few digits is small
  pub bound : {i v : ℕ} → Digits text i v → v < 10000000000
  bound {i} {v} d = omega (arith, d.small, ten_up 10 i (omega (arith, d.reached, d.short)))

  -- the answers
  unusable_if : (T (is_number text) → ⊥) → None ≡ number_in text
  unfolding number_in
  unusable_if h = rw (is_false (is_number text) h) refl

  abbrev n : ℕ
  n = length text

  abbrev A : Bool
  A = all_below n (digit_at text)

  abbrev B : Bool
  B = leb (value_before text n) 4294967295

  pub not_long : (1 ≤ n → n ≤ 10 → ⊥) → None ≡ number_in text
  not_long h =
      unusable_if (λ u. h (leb→le 1 n (and_l (leb 1 n) (leb n 10 && (A && B)) u))
      (leb→le n 10 (and_l (leb n 10) (A && B) (and_r (leb 1 n) (leb n 10 && (A && B)) u))))

  tests : T (is_number text) → T (A && B)
  tests u = and_r (leb n 10) (A && B) (and_r (leb 1 n) (leb n 10 && (A && B)) u)

  pub not_digit : (i : ℕ) → i < n → (48 ≤ get_or text i 0 → get_or text i 0 ≤ 57 → ⊥) → None ≡ number_in text
  not_digit i l h =
      unusable_if (λ u.
      let d = all_out n (digit_at text) (and_l A B (tests u)) i l in
      h (leb→le 48 (get_or text i 0) (and_l (leb 48 (get_or text i 0)) (leb (get_or text i 0) 57) d))
      (leb→le (get_or text i 0) 57 (and_r (leb 48 (get_or text i 0)) (leb (get_or text i 0) 57) d)))

  too_large : {i v : ℕ} → i ≡ n → Digits text i v → 4294967295 < v → None ≡ number_in text
  too_large {i} {v} e d h =
      unusable_if (λ u.
      let q : value_before text n ≤ 4294967295 = leb→le (value_before text n) 4294967295 (and_r A B (tests u)) in
      let s : v ≡ value_before text n = d.value ∙ ap (value_before text) e in
      omega arith)

  is_number_lem : {i v : ℕ} → i ≡ n → Digits text i v → v ≤ 4294967295 → Some v ≡ number_in text
  unfolding number_in
  is_number_lem {i} {v} e d h =
      let s : v ≡ value_before text n = d.value ∙ ap (value_before text) e in
      rw (is_true (is_number text)
      (and_in (leb 1 n) (leb n 10 && (A && B)) (le→leb 1 n d.some)
      (and_in (leb n 10) (A && B) (le→leb n 10 d.short)
      (and_in A B (subst T (sym (subst (λ k. all_below k (digit_at text) ≡ true) e d.all)) tt)
      (le→leb (value_before text n) 4294967295 (subst (λ w. w ≤ 4294967295) s h)))))) (ap Some s)

  -- either way
  pub number_is : {i v : ℕ} (r : Option ℕ) → i ≡ n → Digits text i v → (v < 2 ^ 32 → r ≡ Some v) → (2 ^ 32 ≤ v → r ≡ None) → r ≡ number_in text
  number_is {i} {v} r e d f g =
      elim (dec_lt v 4294967296) [
        | yes l ↦ f l ∙ is_number_lem e d (omega arith)
        | no l ↦ g (omega arith) ∙ too_large e d (omega arith)
      ]

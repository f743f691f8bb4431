-- Tests that decide a property of the numbers below a bound, or of pairs of them.
use mathlib.Core.Path.{◌≡◌}
use mathlib.Core.Logic.{◌⊎◌, inl, inr}
use mathlib.Core.Bool.{Bool, ◌&&◌, ◌||◌, not}
use lib.Dec.{T, T_not, not_T}
use Prim.Native.Nat.{◌<◌, ℕ}
use Rattle.meaning.proofs.Basic.Booleans.{and_in, conj, dec-T, or_l, or_out, or_r, test_eq}

-- b is a test of P below n
pub record Decides (n : ℕ) (b : ℕ → Bool) (P : ℕ → Type 0) : Type 0 where
  pub sound : (x : ℕ) → x < n → T (b x) → P x
  pub whole : (x : ℕ) → x < n → P x → T (b x)

-- b is a test of R on the pairs below n
pub record DecidesPairs (n : ℕ) (b : ℕ → ℕ → Bool) (R : ℕ → ℕ → Type 0) : Type 0 where
  pub sound : (x y : ℕ) → x < n → y < n → T (b x y) → R x y
  pub whole : (x y : ℕ) → x < n → y < n → R x y → T (b x y)

pub decide : {n : ℕ} {b : ℕ → Bool} {P : ℕ → Type 0} → Decides n b P → (x : ℕ) → x < n → P x ⊎ (P x → ⊥)
decide {b} p x l = elim (dec-T (b x)) [ inl h ↦ inl (p.sound x l h) | inr h ↦ inr (λ q. T_not (b x) h (p.whole x l q)) ]

pub stable : {n : ℕ} {b : ℕ → Bool} {P : ℕ → Type 0} → Decides n b P → (x : ℕ) → x < n → ((P x → ⊥) → ⊥) → P x
stable d x l h = elim (decide d x l) [ inl a ↦ a | inr b ↦ absurd (h b) ]

-- two tests of one property agree
pub same_tests : {n : ℕ} {b c : ℕ → Bool} {P : ℕ → Type 0} → Decides n b P → Decides n c P → (x : ℕ) → x < n → b x ≡ c x
same_tests {b = b} {c = c} p q x l = test_eq (b x) (c x) (λ h. q.whole x l (p.sound x l h)) (λ h. p.whole x l (q.sound x l h))

-- the tests of compound statements
pub test_decides : {n : ℕ} (p : ℕ → Bool) → Decides n p (λ x. T (p x))
test_decides p = record { sound = λ x l h. h; whole = λ x l h. h }

pub not_decides : {n : ℕ} {P : ℕ → Type 0} {p : ℕ → Bool} → Decides n p P → Decides n (λ x. not (p x)) (λ x. P x → ⊥)
not_decides {p = p} d = record { sound = λ x l h q. T_not (p x) h (d.whole x l q); whole = λ x l h. not_T (p x) (λ z. h (d.sound x l z)) }

module _ {n : ℕ} {P Q : ℕ → Type 0} {p q : ℕ → Bool} where
  pub and_decides : Decides n p P → Decides n q Q → Decides n (λ x. p x && q x) (λ x. P x × Q x)
  and_decides d e =
      record {
        sound = λ x l h. (d.sound x l (search conj), e.sound x l (search conj));
        whole = λ x l h. and_in (p x) (q x) (d.whole x l h.0) (e.whole x l h.1);
      }

  pub or_decides : Decides n p P → Decides n q Q → Decides n (λ x. p x || q x) (λ x. P x ⊎ Q x)
  or_decides d e =
      record {
        sound = λ x l h. elim (or_out (p x) (q x) h) [ inl a ↦ inl (d.sound x l a) | inr b ↦ inr (e.sound x l b) ];
        whole = λ x l h. elim h [ inl a ↦ or_l (p x) (q x) (d.whole x l a) | inr b ↦ or_r (p x) (q x) (e.whole x l b) ];
      }

pub both_decide : {n : ℕ} {X Y : ℕ → ℕ → Type 0} {a b : ℕ → ℕ → Bool} → DecidesPairs n a X → DecidesPairs n b Y
    → DecidesPairs n (λ x y. a x y && b x y) (λ x y. X x y × Y x y)
both_decide {a = a} {b = b} c d =
    record {
      sound = λ x y l k h. (c.sound x y l k (search conj), d.sound x y l k (search conj));
      whole = λ x y l k h. and_in (a x y) (b x y) (c.whole x y l k h.0) (d.whole x y l k h.1);
    }

-- Start, turn and end of the loop that tests the members of a set, and what it makes where the test is known.
use mathlib.Core.Path.{◌≡◌, refl, sym, subst, ap, ◌∙◌}
use mathlib.Core.Logic.{◌≢◌}
use mathlib.Core.Bool.{Bool, true, false, ◌&&◌}
use lib.Dec.{T}
use native.Mathlib.Decide.{ℕ_discrete}
use native.Mathlib.Omega.{arith}
use Prim.Native.Nat.{ℕ, ◌^◌, ◌<◌}
use Rattle.words.specs.Sets.{has, built, below, complement, insert, without, lowest}
use Rattle.words.specs.Passing.{Filtered, Filtering}
use Rattle.words.proofs.Members.{below_lt, has_below, has_lt, intersection_le, same_members}
use Rattle.words.proofs.Built.{built_lt, built_same, has_built, less_in, less_out}
use Rattle.words.proofs.Passing.{passing_start, passing_lowest, passing_more, passing_end}

pub filtering_start : (P : ℕ → Bool → Type 0) (w : ℕ) → Filtering P w w w
filtering_start P w = record { passing = passing_start w _; less = omega arith; only = λ y i. i; waiting = λ y i. i }

is_true : (b : Bool) → T b → b ≡ true
is_true true h = refl
is_true false h = absurd h

is_false : (b : Bool) → (T b → ⊥) → b ≡ false
is_false true h = absurd (h tt)
is_false false h = refl

module _ (k : ℕ) {P : ℕ → Bool → Type 0} {w result rest : ℕ} (h : Filtering P w result rest) (f : w < 2 ^ k) (n : rest ≢ 0) where
  abbrev z : ℕ
  z = lowest k rest

  module _ {left : ℕ} (e : left ≡ without k rest z) where
    -- the lowest passes
    pub filtering_in : P z true → Filtering P w result left
    unfolding without
    filtering_in p =
        record {
          passing =
              passing_more k h.passing f n e (λ y i. i)
              (subst (P z) (sym (is_true (has result z) (h.waiting z (passing_lowest k h.passing f n).member))) p);
          less = h.less;
          only = h.only;
          waiting = λ y i. h.waiting y (less_out k rest z y (subst (λ v. T (has v y)) e i)).1;
        }

    -- the lowest fails
    pub filtering_out : P z false → {less : ℕ} → less ≡ without k result z → Filtering P w less left
    unfolding without
    filtering_out p {less} d =
        record {
          passing = passing_more k h.passing f n e after (here z refl);
          less = omega (arith, d, h.less, intersection_le result (complement k (insert 0 z)));
          only = λ y i. h.only y (less_out k result z y (subst (λ v. T (has v y)) d i)).1;
          waiting = λ y i.
              let o = less_out k rest z y (subst (λ v. T (has v y)) e i) in
              subst (λ v. T (has v y)) (sym d) (less_in k result z y (has_lt k rest y (omega (arith, h.passing.less)) o.1) o.0 (h.waiting y o.1));
        }
      where
        gone : (y : ℕ) → z ≡ y → has less y ≡ false
        gone y q = is_false (has less y) (λ i. (less_out k result z y (subst (λ v. T (has v y)) d i)).0 q)

        here : (y : ℕ) → z ≡ y → P y (has less y)
        here y q = subst (P y) (sym (gone y q)) (subst (λ y. P y false) q p)

        stays : (y : ℕ) → z ≢ y → (b : Bool) → has result y ≡ b → has result y ≡ has less y
        stays y q true e =
            let i = subst T (sym e) tt in
            e ∙ sym (is_true (has less y) (subst (λ v. T (has v y)) (sym d) (less_in k result z y (has_lt k result y (omega (arith, h.less)) i) q i)))
        stays y q false e =
            e ∙ sym (is_false (has less y) (λ i. subst T e (less_out k result z y (subst (λ v. T (has v y)) d i)).1))

        after : (y : ℕ) → P y (has result y) → P y (has less y)
        after y i =
            elim (ℕ_discrete z y) [
              | yes q ↦ here y q
              | no q ↦ subst (P y) (stays y q (has result y) refl) i
            ]

pub filtering_end : {P : ℕ → Bool → Type 0} {w result : ℕ} → Filtering P w result 0 → Filtered P w result
filtering_end h = record { less = h.less; only = h.only; tested = λ y i. passing_end h.passing y i }

-- ---- the test is f
module _ {P : ℕ → Bool → Type 0} {w result n : ℕ} (h : Filtered P w result) (l : w < 2 ^ n) (f : ℕ → Bool)
    (test : (y : ℕ) (b : Bool) → y < n → P y b → b ≡ f y) where
  pub filtered_is : result ≡ built n (λ y. has w y && f y)
  filtered_is =
      same_members n result (built n both) (omega (arith, h.less)) (built_lt n both) (λ y k. on y k (has w y) refl ∙ sym (has_built n both y k))
    where
      both : ℕ → Bool
      both y = has w y && f y

      on : (y : ℕ) → y < n → (b : Bool) → has w y ≡ b → has result y ≡ (has w y && f y)
      on y k true e = test y (has result y) k (h.tested y (subst T (sym e) tt)) ∙ rw e
      on y k false e = is_false (has result y) (λ i. subst T e (h.only y i)) ∙ rw e

-- among all numbers below n
pub filtered_below : {P : ℕ → Bool → Type 0} {w result n : ℕ} → Filtered P w result → w ≡ below n → (f : ℕ → Bool)
    → ((y : ℕ) (b : Bool) → y < n → P y b → b ≡ f y) → result ≡ built n f
filtered_below {w = w} {n = n} h e f test =
    filtered_is h (rw e (below_lt n)) f test
    ∙ built_same n (λ y. has w y && f y) f (λ y k. ap (λ b. b && f y) (ap (λ w. has w y) e ∙ has_below n y k))

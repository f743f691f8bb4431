-- What is read after what, in whichever grouping; and what was found before it was changed.
use mathlib.Core.Path.{◌≡◌, refl, ap}
use native.Mathlib.Omega.{arith}
use Prim.Native.Nat.{ℕ}
use Rattle.meaning.specs.File.Parser.{Got, found, fault, on}
use Rattle.parsing.specs.Stages.{mapped}

-- what was found once is one thing
pub found_same : {A : Type 0} {a b : A} {m n : ℕ} → found a m ≡ found b n → a ≡ b
found_same h = cc

module _ {A B : Type 0} where
  -- what follows matters only for what was found
  pub on_each : (g : Got A) (f f' : A → ℕ → Got B) → ((a : A) (n : ℕ) → g ≡ found a n → f a n ≡ f' a n) → on g f ≡ on g f'
  on_each (found a n) f f' h = h a n refl
  on_each (fault r) f f' h = refl

  -- where what follows was found, so was what it follows
  pub record First (g : Got A) (f : A → ℕ → Got B) (b : B) (end : ℕ) : Type 0 where
    pub value : A
    pub place : ℕ
    pub is : g ≡ found value place
    pub rest : f value place ≡ found b end

  pub first_of : (g : Got A) (f : A → ℕ → Got B) (b : B) (end : ℕ) → on g f ≡ found b end → First g f b end
  first_of (found a n) f b end q = record { value = a; place = n; is = refl; rest = q }
  first_of (fault r) f b end q = let z : ◌≡◌ {A = ℕ} 0 1 = cc in let y : ⊥ = omega arith in absurd y

  -- b was found at a place, from something of which it is the image
  pub record Was (f : A → B) (g : Got A) (b : B) (at : ℕ) : Type 0 where
    pub value : A
    pub is : g ≡ found value at
    pub same : b ≡ f value

  pub was : (f : A → B) (g : Got A) (b : B) (at : ℕ) → found b at ≡ mapped f g → Was f g b at
  was f (found a n) b at e = record { value = a; is = (let z : n ≡ at = cc in ap (found a) z); same = (let z : b ≡ f a = cc in z) }
  was f (fault r) b at e = let z : ◌≡◌ {A = ℕ} 0 1 = cc in let y : ⊥ = omega arith in absurd y

  pub was_fault : (f : A → B) (g : Got A) (r : ℕ) → fault r ≡ mapped f g → g ≡ fault r
  was_fault f (found a n) r e = let z : ◌≡◌ {A = ℕ} 0 1 = cc in let y : ⊥ = omega arith in absurd y
  was_fault f (fault s) r e = let z : s ≡ r = cc in ap fault z

module _ {A B C D : Type 0} where
  -- two readings and the rest, or the two together and the rest
  pub regroup : (g : Got A) (h : A → ℕ → Got B) (x : A → B → ℕ → Got C) (f : C → ℕ → Got D) (y : B → ℕ → Got D)
      → ((a : A) (n : ℕ) (b : B) (e : ℕ) → h a n ≡ found b e → on (x a b e) f ≡ y b e)
      → on (on g (λ a n. on (h a n) (λ b e. x a b e))) f ≡ on (on g h) y
  regroup (found a n) h x f y p = second (h a n) refl
    where
      second : (k : Got B) → h a n ≡ k → on (on k (λ b e. x a b e)) f ≡ on k y
      second (found b e) q = p a n b e q
      second (fault r) q = refl
  regroup (fault r) h x f y p = refl

  -- the last two readings, for one whole or for another
  pub regroup_last : {E : Type 0} (g : Got A) (h : A → ℕ → Got B) (x : A → B → C) (f : C → ℕ → Got D) (z : A → B → E) (y : E → ℕ → Got D)
      → ((a : A) (b : B) (e : ℕ) → f (x a b) e ≡ y (z a b) e)
      → on (on g (λ a n. on (h a n) (λ b e. found (x a b) e))) f ≡ on (on g (λ a n. on (h a n) (λ b e. found (z a b) e))) y
  regroup_last (found a n) h x f z y p = second (h a n)
    where
      second : (k : Got B) → on (on k (λ b e. found (x a b) e)) f ≡ on (on k (λ b e. found (z a b) e)) y
      second (found b e) = p a b e
      second (fault r) = refl
  regroup_last (fault r) h x f z y p = refl

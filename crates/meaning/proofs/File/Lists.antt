-- What holds of a thing that was read, of one read after another, and of the items of a list (specs/File/Parser).
use mathlib.Core.Path.{◌≡◌, ap, refl, subst}
use mathlib.Core.List.{List, [], ◌∷◌}
use lib.ListN.{get_or, length}
use native.Mathlib.Omega.{arith}
use Prim.Native.Nat.{◌+◌, ◌<◌, suc, zero, ℕ}
use Rattle.meaning.specs.File.Parser.{Got, Parser, fault, found, list_of, on}
use Rattle.meaning.specs.Tests.{All}

-- if something was found, then it and the place after it are Q
abbrev pub Says : {A : Type 0} → (A → ℕ → Type 0) → Got A → Type 0
Says Q (found a e) = Q a e
Says Q (fault r) = Unit {0}

pub says_itself : {A : Type 0} (g : Got A) → Says (λ a e. g ≡ found a e) g
says_itself (found a e) = refl
says_itself (fault r) = tt

pub found_says : {A : Type 0} (Q : A → ℕ → Type 0) (g : Got A) → Says Q g → (a : A) (e : ℕ) → g ≡ found a e → Q a e
found_says Q g h a e q = subst (Says Q) q h

pub says_map : {A : Type 0} (P Q : A → ℕ → Type 0) → ((a : A) (e : ℕ) → P a e → Q a e) → (g : Got A) → Says P g → Says Q g
says_map P Q f (found a e) h = f a e h
says_map P Q f (fault r) h = tt

module _ {A B : Type 0} where
  -- the second thing is read after what was found first
  pub on_says : (P : A → ℕ → Type 0) (Q : B → ℕ → Type 0) (g : Got A) (f : A → ℕ → Got B) → Says P g
      → ((a : A) (n : ℕ) → P a n → Says Q (f a n)) → Says Q (on g f)
  on_says P Q (found a n) f h k = k a n h
  on_says P Q (fault r) f h k = tt

  pub on_same : (P : A → ℕ → Type 0) (g : Got A) (f f' : A → ℕ → Got B) → Says P g → ((a : A) (n : ℕ) → P a n → f a n ≡ f' a n)
      → on g f ≡ on g f'
  on_same P (found a n) f f' h k = k a n h
  on_same P (fault r) f f' h k = refl

-- the same as a record, from which P can be read off
pub record Told {A : Type 0} (P : A → ℕ → Type 0) (g : Got A) : Type 0 where
  pub told : Says P g

pub told_on : {A B : Type 0} {P : A → ℕ → Type 0} {Q : B → ℕ → Type 0} {g : Got A} {f : A → ℕ → Got B} → Told P g
    → ((a : A) (n : ℕ) → P a n → Told Q (f a n)) → Told Q (on g f)
told_on {P = P} {Q = Q} {g = g} {f = f} h k = record { told = on_says P Q g f h.told (λ a n p. (k a n p).told) }

pub told_map : {A : Type 0} {P Q : A → ℕ → Type 0} {g : Got A} → ((a : A) (e : ℕ) → P a e → Q a e) → Told P g → Told Q g
told_map {P = P} {Q = Q} {g = g} f h = record { told = says_map P Q f g h.told }

pub told_found : {A : Type 0} (P : A → ℕ → Type 0) (a : A) (n : ℕ) → P a n → Told P (found a n)
told_found P a n h = record { told = h }

-- of three things it does not matter which two are put together
pub on_assoc : {A B C : Type 0} (g : Got A) (f : A → ℕ → Got B) (h : B → ℕ → Got C) → on (on g f) h ≡ on g (λ a n. on (f a n) h)
on_assoc (found a n) f h = refl
on_assoc (fault r) f h = refl

-- each item is P in the state that those before it lead to
abbrev pub Along : {A S : Type 0} → (S → A → Type 0) → (S → A → S) → S → List A → Type 0
Along P next s [] = Unit {0}
Along P next s (a ∷ rest) = P s a × Along P next (next s a) rest

-- and there are as many as were asked for
pub record Sequence {A S : Type 0} (P : S → A → Type 0) (next : S → A → S) (k : ℕ) (s : S) (vs : List A) : Type 0 where
  pub long : length vs ≡ k
  pub items : Along P next s vs

-- items of which nothing hangs on those before
pub along_all : {A S : Type 0} (P : A → Type 0) (s : S) (vs : List A) → Along (λ (t : S). P) (λ t a. t) s vs → All P vs
along_all P s [] h = tt
along_all P s (a ∷ vs) h = (h.0, along_all P s vs h.1)

-- items that hang on how many stand before them
pub along_places : {A : Type 0} (P : ℕ → A → Type 0) (d : A) (k : ℕ) (vs : List A) → Along P (λ k a. k + 1) k vs
    → (i : ℕ) → i < length vs → P (k + i) (get_or vs i d)
along_places P d k [] h i l = absurd (omega arith)
along_places P d k (a ∷ vs) h zero l = let e : k ≡ k + 0 = omega arith in subst (λ n. P n a) e h.0
along_places P d k (a ∷ vs) h (suc i) l =
    let e : k + 1 + i ≡ k + suc i = omega arith in
    subst (λ n. P n (get_or vs i d)) e (along_places P d (k + 1) vs h.1 i (omega arith))

module _ {A S : Type 0} (item : S → Parser A) (next : S → A → S) (file : List ℕ) where
  -- a list of no items, and of one item with others after it
  pub list_none : (s : S) (at : ℕ) → list_of item next 0 s file at ≡ found [] at
  unfolding list_of
  list_none s at = refl

  pub list_more : (k : ℕ) (s : S) (at : ℕ)
      → list_of item next (suc k) s file at
      ≡ on (item s file at) (λ a n. on (list_of item next k (next s a) file n) (λ rest e. found (a ∷ rest) e))
  unfolding list_of
  list_more k s at = refl

  -- an item is what its parser says
  pub list_says : (P : S → A → Type 0) → ((s : S) (at : ℕ) → Says (λ a n. P s a) (item s file at)) → (k : ℕ) (s : S) (at : ℕ)
      → Says (λ vs e. Sequence P next k s vs) (list_of item next k s file at)
  list_says P h zero s at = rw (list_none s at) (record { long = refl; items = tt })
  list_says P h (suc k) s at =
      rw (list_more k s at)
      (on_says (λ a n. P s a) (λ vs e. Sequence P next (suc k) s vs) (item s file at)
      (λ a n. on (list_of item next k (next s a) file n) (λ rest e. found (a ∷ rest) e)) (h s at)
      (λ a n p. on_says (λ vs e. Sequence P next k (next s a) vs) (λ vs e. Sequence P next (suc k) s vs)
      (list_of item next k (next s a) file n) (λ rest e. found (a ∷ rest) e) (list_says P h k (next s a) n)
      (λ rest e q. record { long = ap suc q.long; items = (p, q.items) })))

  -- each item of a list that was read was found by its parser
  pub list_items : (k : ℕ) (s : S) (at : ℕ) (vs : List A) (e : ℕ) → list_of item next k s file at ≡ found vs e
      → Sequence (λ s a. (here after : ℕ) × (item s file here ≡ found a after)) next k s vs
  list_items k s at vs e q = found_says (λ vs e. Sequence Found next k s vs) (list_of item next k s file at) (list_says Found each k s at) vs e q
    where
      Found : S → A → Type 0
      Found s a = (here after : ℕ) × (item s file here ≡ found a after)

      each : (s : S) (at : ℕ) → Says (λ a n. Found s a) (item s file at)
      each s at =
          says_map (λ a n. item s file at ≡ found a n) (λ a n. Found s a) (λ a n e. (at, n, e)) (item s file at) (says_itself (item s file at))

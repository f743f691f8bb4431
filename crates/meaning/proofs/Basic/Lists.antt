-- Tests of every member of a list, of some member, and of the listed numbers.
use mathlib.Core.Path.{◌∙◌, ◌≡◌, ap, refl, subst}
use mathlib.Core.Logic.{◌↔◌, inl, inr, ⊎_map}
use mathlib.Core.Bool.{Bool, ◌&&◌, ◌||◌, false, true}
use mathlib.Core.List.{List, [], ◌++◌, ◌∷◌}
use lib.Dec.{T, eqb, eqb_refl, eqb→eq}
use lib.ListN.{get_or, length}
use native.Mathlib.Omega.{arith}
use Prim.Native.Nat.{◌<◌, suc, zero, ℕ}
use Rattle.meaning.specs.Reference.Answers.{join_below, list_below}
use Rattle.meaning.specs.Reference.Tests.{all_below, all_of, any_of}
use Rattle.meaning.specs.Tests.{All, Any, any_below, listed}
use Rattle.meaning.proofs.Basic.Booleans.{and_in, and_l, and_r, or_l, or_out, or_r}
use Rattle.meaning.proofs.Basic.Bounded.{any_in, any_out}

-- a test that is right of each member
pub all_sound : {X : Type 0} (P : X → Type 0) (p : X → Bool) → ((x : X) → T (p x) → P x) → (xs : List X) → T (all_of p xs) → All P xs
all_sound P p d [] h = tt
all_sound P p d (x ∷ xs) h = (d x (and_l (p x) (all_of p xs) h), all_sound P p d xs (and_r (p x) (all_of p xs) h))

module _ {X : Type 0} (P : X → Type 0) (p : X → Bool) (d : (x : X) → T (p x) ↔ P x) where
  pub all_test : (xs : List X) → T (all_of p xs) ↔ All P xs
  all_test [] = (λ h. tt, λ h. tt)
  all_test (x ∷ xs) = (
    all_sound P p (λ x. (d x).0) (x ∷ xs),
    λ h. and_in (p x) (all_of p xs) ((d x).1 h.0) ((all_test xs).1 h.1),
  )

  pub any_test : (xs : List X) → T (any_of p xs) ↔ Any P xs
  any_test [] = (λ h. h, λ h. h)
  any_test (x ∷ xs) = (
    λ h. ⊎_map (d x).0 (any_test xs).0 (or_out (p x) (any_of p xs) h),
    λ h. elim h [ inl a ↦ or_l (p x) (any_of p xs) ((d x).1 a) | inr b ↦ or_r (p x) (any_of p xs) ((any_test xs).1 b) ],
  )

module _ {X : Type 0} {P Q : X → Type 0} where
  pub all_map : ((x : X) → P x → Q x) → (xs : List X) → All P xs → All Q xs
  all_map f [] h = tt
  all_map f (x ∷ xs) h = (f x h.0, all_map f xs h.1)

  pub any_not : ((x : X) → P x → Q x → ⊥) → (xs : List X) → Any P xs → All Q xs → ⊥
  any_not f [] h k = h
  any_not f (x ∷ xs) (inl h) k = f x h k.0
  any_not f (x ∷ xs) (inr h) k = any_not f xs h k.1

-- the test of a list is a test of its places
pub all_places : {X : Type 0} (p : X → Bool) (xs : List X) → T (all_of p xs) → (d : X) (j : ℕ) → j < length xs → T (p (get_or xs j d))
all_places p [] h d j l = absurd (omega arith)
all_places p (x ∷ xs) h d zero l = and_l (p x) (all_of p xs) h
all_places p (x ∷ xs) h d (suc j) l = all_places p xs (and_r (p x) (all_of p xs) h) d j (omega arith)

-- what holds at every place holds of all members
pub places_all : {X : Type 0} (P : X → Type 0) (d : X) (xs : List X) → ((j : ℕ) → j < length xs → P (get_or xs j d)) → All P xs
places_all P d [] h = tt
places_all P d (x ∷ xs) h = (h 0 (omega arith), places_all P d xs (λ j l. h (suc j) (omega arith)))

-- a listed number has a place, and passes what all members pass
pub listed_at : (zs : List ℕ) (w : ℕ) → T (listed zs w) → (j : ℕ) × (j < length zs) × (get_or zs j 0 ≡ w)
listed_at zs w h = let (j, l, e) = any_out (length zs) (λ j. eqb (get_or zs j 0) w) h in (j, l, eqb→eq (get_or zs j 0) w e)

pub at_listed : (zs : List ℕ) (j : ℕ) → j < length zs → T (listed zs (get_or zs j 0))
at_listed zs j l = any_in (length zs) (λ i. eqb (get_or zs i 0) (get_or zs j 0)) j l (eqb_refl (get_or zs j 0))

pub all_listed : (p : ℕ → Bool) (zs : List ℕ) → T (all_of p zs) → (w : ℕ) → T (listed zs w) → T (p w)
all_listed p zs h w l = let (j, k, e) = listed_at zs w l in subst (λ w. T (p w)) e (all_places p zs h 0 j k)

-- what holds of every entry holds of all members of a list of entries
module _ {X : Type 0} (P : X → Type 0) where
  all_append : (xs ys : List X) → All P xs → All P ys → All P (xs ++ ys)
  all_append [] ys h k = k
  all_append (x ∷ xs) ys h k = (h.0, all_append xs ys h.1 k)

  pub all_list : (n : ℕ) (f : ℕ → X) → ((k : ℕ) → k < n → P (f k)) → All P (list_below n f)
  all_list zero f h = tt
  all_list (suc n) f h = all_append (list_below n f) (f n ∷ []) (all_list n f (λ k l. h k (omega arith))) (h n (omega arith), tt)

  pub all_join : (n : ℕ) (f : ℕ → List X) → ((k : ℕ) → k < n → All P (f k)) → All P (join_below n f)
  all_join zero f h = tt
  all_join (suc n) f h = all_append (join_below n f) (f n) (all_join n f (λ k l. h k (omega arith))) (h n (omega arith))

-- the first test and the others
or_swap : (a b c : Bool) → (a || (b || c)) ≡ (b || (a || c))
or_swap true true c = refl
or_swap true false c = refl
or_swap false true c = refl
or_swap false false c = refl

and_swap : (a b c : Bool) → (a && (b && c)) ≡ (b && (a && c))
and_swap true true c = refl
and_swap true false c = refl
and_swap false true c = refl
and_swap false false c = refl

any_first : (n : ℕ) (f : ℕ → Bool) → any_below (suc n) f ≡ (f 0 || any_below n (λ i. f (suc i)))
any_first zero f = refl
any_first (suc n) f = ap (λ b. f (suc n) || b) (any_first n f) ∙ or_swap (f (suc n)) (f 0) (any_below n (λ i. f (suc i)))

all_first : (n : ℕ) (f : ℕ → Bool) → all_below (suc n) f ≡ (f 0 && all_below n (λ i. f (suc i)))
all_first zero f = refl
all_first (suc n) f = ap (λ b. f (suc n) && b) (all_first n f) ∙ and_swap (f (suc n)) (f 0) (all_below n (λ i. f (suc i)))

module _ {X : Type 0} (p : X → Bool) (d : X) where
  pub any_of_places : (xs : List X) → any_below (length xs) (λ j. p (get_or xs j d)) ≡ any_of p xs
  any_of_places [] = refl
  any_of_places (x ∷ xs) = any_first (length xs) (λ j. p (get_or (x ∷ xs) j d)) ∙ ap (λ b. p x || b) (any_of_places xs)

  pub all_of_places : (xs : List X) → all_below (length xs) (λ j. p (get_or xs j d)) ≡ all_of p xs
  all_of_places [] = refl
  all_of_places (x ∷ xs) = all_first (length xs) (λ j. p (get_or (x ∷ xs) j d)) ∙ ap (λ b. p x && b) (all_of_places xs)

-- Lists of entries (specs/Reference/Answers): how long they are and what stands in them; stores one after the other.
use mathlib.Core.Path.{◌≡◌, refl, sym, subst, ap, ap₂, ◌∙◌}
use mathlib.Core.Logic.{inl, inr}
use mathlib.Core.List.{List, [], ◌∷◌, ◌++◌}
use lib.ListN.{length, get_or, set, length-append, get_or-append}
use lib.Seq.{sets, get_or_at, get_or-append-add}
use native.Mathlib.Decide.{dec_lt}
use native.Mathlib.Nat.{add-zero, mul-zero, mul-suc}
use native.Mathlib.Omega.{arith}
use Prim.Native.Nat.{ℕ, zero, suc, ◌+◌, ◌*◌, ◌≤◌, ◌<◌}
use Rattle.meaning.specs.Reference.Answers.{list_below, join_below}
use Rattle.meaning.proofs.Basic.Bounded.{last_or}

-- lists joined one after the other, of whatever lengths
module _ {X : Type 0} (f : ℕ → List X) where
  -- the i-th list ends before the later ones
  pub join_fits : (n i : ℕ) → i < n → length (join_below i f) + length (f i) ≤ length (join_below n f)
  join_fits zero i h = absurd (omega arith)
  join_fits (suc n) i h =
      elim (last_or i n h) [
        | inl e ↦ rw e (omega (arith, length-append (join_below n f) (f n)))
        | inr l ↦ omega (arith, join_fits n i l, length-append (join_below n f) (f n))
      ]

  -- its j-th entry
  pub join_at : (d : X) (n i j : ℕ) → i < n → j < length (f i) → get_or (join_below n f) (length (join_below i f) + j) d ≡ get_or (f i) j d
  join_at d zero i j h l = absurd (omega arith)
  join_at d (suc n) i j h l =
      elim (last_or i n h) [
        | inl e ↦ rw e (get_or-append-add (join_below n f) (f n) j d)
        | inr k ↦
            get_or-append (join_below n f) (f n) d (length (join_below i f) + j) (omega (arith, join_fits n i k)) ∙ join_at d n i j k l
      ]

module _ {X : Type 0} where
  pub list_length : (n : ℕ) (f : ℕ → X) → length (list_below n f) ≡ n
  list_length zero f = refl
  list_length (suc n) f = length-append (list_below n f) (f n ∷ []) ∙ omega (arith, list_length n f)

  pub list_at : (n : ℕ) (f : ℕ → X) (d : X) (k : ℕ) → k < n → get_or (list_below n f) k d ≡ f k
  list_at zero f d k h = absurd (omega arith)
  list_at (suc n) f d k h =
      elim (dec_lt k n) [
        | yes l ↦ get_or-append (list_below n f) (f n ∷ []) d k (omega (arith, list_length n f)) ∙ list_at n f d k l
        | no l ↦
            let e : k ≡ n = omega arith in
            rw e (get_or_at (list_below n f) (f n) [] d n (list_length n f))
      ]

  pub list_same : (n : ℕ) (f g : ℕ → X) → ((k : ℕ) → k < n → f k ≡ g k) → list_below n f ≡ list_below n g
  list_same zero f g h = refl
  list_same (suc n) f g h = ap₂ (λ l x. l ++ (x ∷ [])) (list_same n f g (λ k l. h k (omega arith))) (h n (omega arith))

  -- lists of one length, and lists that agree
  pub join_length : (m n : ℕ) (f : ℕ → List X) → ((k : ℕ) → k < n → length (f k) ≡ m) → length (join_below n f) ≡ m * n
  join_length m zero f h = sym (mul-zero m)
  join_length m (suc n) f h =
      length-append (join_below n f) (f n)
      ∙ omega (arith, join_length m n f (λ k l. h k (omega arith)), h n (omega arith), mul-suc m n)

  pub join_row : (m n : ℕ) (f : ℕ → List X) → ((k : ℕ) → k < n → length (f k) ≡ m) → (d : X) (k a : ℕ) → k < n → a < m
      → get_or (join_below n f) (m * k + a) d ≡ get_or (f k) a d
  join_row m n f h d k a l b =
      subst (λ x. get_or (join_below n f) (x + a) d ≡ get_or (f k) a d) (join_length m k f (λ j z. h j (omega arith)))
      (join_at f d n k a l (omega (arith, h k l)))

  pub join_same : (n : ℕ) (f g : ℕ → List X) → ((k : ℕ) → k < n → f k ≡ g k) → join_below n f ≡ join_below n g
  join_same zero f g h = refl
  join_same (suc n) f g h = ap₂ (λ l r. l ++ r) (join_same n f g (λ k l. h k (omega arith))) (h n (omega arith))

  -- stores one after the other
  pub sets_append : (vs ws l : List X) (i : ℕ) → sets l i (vs ++ ws) ≡ sets (sets l i vs) (i + length vs) ws
  sets_append [] ws l i = ap (λ k. sets l k ws) (sym (add-zero i))
  sets_append (v ∷ vs) ws l i =
      let e : suc i + length vs ≡ i + suc (length vs) = omega arith in
      sets_append vs ws (set l i v) (suc i) ∙ ap (λ k. sets (sets (set l i v) (suc i) vs) k ws) e

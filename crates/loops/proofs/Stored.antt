-- A list stored in a longer one: what stands at each place afterwards.
use mathlib.Core.Path.{◌≡◌, refl, sym, ◌∙◌}
use mathlib.Core.List.{List, [], ◌∷◌}
use lib.ListN.{length, get_or, set, replicate, length-set, length-replicate, get_or-eq_default}
use lib.Seq.{sets, get_or-set_same, get_or-set_other}
use native.Mathlib.Decide.{dec_lt}
use native.Mathlib.Omega.{arith}
use Prim.Native.Nat.{ℕ, zero, suc, ◌+◌, ◌≤◌, ◌<◌}

module _ {A : Type 0} (d : A) where
  pub sets_before : (vs l : List A) (i j : ℕ) → j < i → get_or (sets l i vs) j d ≡ get_or l j d
  sets_before [] l i j h = refl
  sets_before (v ∷ vs) l i j h =
      sets_before vs (set l i v) (suc i) j (omega arith) ∙ get_or-set_other l i j v d (λ e. omega (arith, e))

  pub sets_after : (vs l : List A) (i j : ℕ) → i + length vs ≤ j → get_or (sets l i vs) j d ≡ get_or l j d
  sets_after [] l i j h = refl
  sets_after (v ∷ vs) l i j h =
      sets_after vs (set l i v) (suc i) j (omega arith) ∙ get_or-set_other l i j v d (λ e. omega (arith, e))

  pub sets_in : (vs l : List A) (i j : ℕ) → i + length vs ≤ length l → j < length vs → get_or (sets l i vs) (i + j) d ≡ get_or vs j d
  sets_in [] l i j r h = absurd (omega arith)
  sets_in (v ∷ vs) l i zero r h =
      let e : i + 0 ≡ i = omega arith in
      rw e (sets_before vs (set l i v) (suc i) i (omega arith) ∙ get_or-set_same l i v d (omega arith))
  sets_in (v ∷ vs) l i (suc j) r h =
      let e : i + suc j ≡ suc i + j = omega arith in
      rw e (sets_in vs (set l i v) (suc i) j (omega (arith, length-set l i v)) (omega arith))

  -- where nothing but d stood from that place on: the stored list, and d past it
  pub sets_on_default : (vs l : List A) (i : ℕ) → i + length vs ≤ length l → ((p : ℕ) → i ≤ p → get_or l p d ≡ d)
      → (j : ℕ) → get_or (sets l i vs) (i + j) d ≡ get_or vs j d
  sets_on_default vs l i r z j =
      elim (dec_lt j (length vs)) [
        | yes h ↦ sets_in vs l i j r h
        | no h ↦
            sets_after vs l i (i + j) (omega arith) ∙ z (i + j) (omega arith) ∙ sym (get_or-eq_default vs d {n = j} (omega arith))
      ]

  pub replicate_at : (n p : ℕ) → get_or (replicate n d) p d ≡ d
  replicate_at zero p = refl
  replicate_at (suc n) zero = refl
  replicate_at (suc n) (suc p) = replicate_at n p

  -- a list stored at the front of n times d: at every place what it has there itself
  pub filled_at : (n : ℕ) (vs : List A) → length vs ≤ n → (j : ℕ) → get_or (sets (replicate n d) 0 vs) j d ≡ get_or vs j d
  filled_at n vs h j =
      let e : 0 + j ≡ j = omega arith in
      rw e at (sets_on_default vs (replicate n d) 0 (omega (arith, length-replicate n d)) (λ p l. replicate_at n p) j)

-- FAIL of EU: the definition speaks of each step, document 01 of a whole path.
use mathlib.Core.Path.{refl, subst, sym}
use mathlib.Core.Logic.{◌⊎◌, inl, inr}
use native.Mathlib.Decide.{dec_lt}
use native.Mathlib.Omega.{arith}
use Prim.Native.Nat.{◌<◌, suc, zero, ℕ}
use Rattle.meaning.specs.Marks.{Move, Stays, UpTo}
use Rattle.meaning.specs.Table.{Table, Total}
use Rattle.meaning.proofs.Meaning.Paths.{cons, cons_path, follow}
use Rattle.meaning.proofs.Meaning.TablePaths.{move_total}

-- as document 01 says it, of one path
abbrev pub Words : (ℕ → Type 0) → (ℕ → Type 0) → (ℕ → ℕ) → Type 0
Words F G π = ((i : ℕ) → G (π i)) ⊎ ((j : ℕ) × F (π j) × UpTo G π j)

-- the definition, of one path
abbrev pub AtEach : (ℕ → Type 0) → (ℕ → Type 0) → (ℕ → ℕ) → Type 0
AtEach F G π = (i : ℕ) → UpTo G π i ⊎ ((j : ℕ) × (j < i) × F (π j) × UpTo G π j)

-- the words give the definition
pub words_each : (F G : ℕ → Type 0) (π : ℕ → ℕ) → Words F G π → AtEach F G π
words_each F G π (inl h) i = inl (λ k l. h k)
words_each F G π (inr (j, f, u)) i = elim (dec_lt j i) [ yes l ↦ inr (j, l, f, u) | no l ↦ inl (λ k z. u k (omega arith)) ]

-- The definition refutes each way of breaking the words: a state outside G with none in F before. (Which of the two ways
-- holds cannot be told from finitely many steps.)
pub each_words : (F G : ℕ → Type 0) (π : ℕ → ℕ) → AtEach F G π → (Words F G π → ⊥) → ⊥
each_words F G π h n = n (inl (λ i. elim (h i) [ inl u ↦ u i (omega arith) | inr (j, l, f, u) ↦ absurd (n (inr (j, f, u))) ]))

-- for a reader who grants excluded middle, the definition is document 01's words
pub each_classical : ((P : Type 0) → P ⊎ (P → ⊥)) → (F G : ℕ → Type 0) (π : ℕ → ℕ) → AtEach F G π → Words F G π
each_classical lem F G π h = elim (lem (Words F G π)) [ inl w ↦ w | inr n ↦ absurd (each_words F G π h n) ]

module _ (t : Table) (total : Total t) where
  -- FAIL of EU in a state, and in the states after one that is not FAIL of the first
  pub stays_now : (F G : ℕ → Type 0) (x : ℕ) → x < t.states → Stays t F G x → G x
  stays_now F G x l h =
      let f = follow {X = λ y. y < t.states} (move_total t total) x l in
      elim (h f.path f.run f.start 0) [ inl g ↦ subst G f.start (g 0 (omega arith)) | inr z ↦ absurd (omega (arith, z.1)) ]

  pub stays_next : (F G : ℕ → Type 0) (x y : ℕ) → Stays t F G x → (F x → ⊥) → Move t x y → Stays t F G y
  stays_next F G x y h n m π p e i =
      go (h (cons x π) (cons_path (Move t) x π (subst (λ z. Move t x z) (sym e) m) p) refl (suc i))
    where
      go : UpTo G (cons x π) (suc i) ⊎ ((j : ℕ) × (j < suc i) × F (cons x π j) × UpTo G (cons x π) j) → UpTo G π i
          ⊎ ((j : ℕ) × (j < i) × F (π j) × UpTo G π j)
      go (inl g) = inl (λ k l. g (suc k) (omega arith))
      go (inr (zero, l, f, g)) = absurd (n f)
      go (inr (suc j, l, f, g)) = inr (j, omega arith, f, λ k l. g (suc k) (omega arith))

-- Which question a word and numbers are.
use mathlib.Core.Path.{◌≡◌, refl, ap, ap₂}
use mathlib.Core.Bool.{Bool, true, false, ◌&&◌, cond}
use mathlib.Core.List.{List, [], ◌∷◌, map}
use lib.Dec.{eqb}
use lib.ListN.{length, length-map}
use native.Mathlib.Omega.{arith}
use Prim.Native.Nat.{ℕ, ◌<◌}
use Rattle.std.specs.Cmp.Lexicographic.{pointwise}
use Rattle.answers.specs.Questions.{same_bytes, number_of, all_numbers, unknown, about, asked_by}
use Rattle.arguments.specs.Words.{Given, Unfit, other, many}

-- the test of two words
pub same_pointwise : (a b : List ℕ) → pointwise eqb a b ≡ same_bytes a b
same_pointwise [] [] = refl
same_pointwise [] (y ∷ b) = refl
same_pointwise (x ∷ a) [] = refl
same_pointwise (x ∷ a) (y ∷ b) = ap (λ t. eqb x y && t) (same_pointwise a b)

module _ (w : List ℕ) where
  -- no question has five numbers or more, or two or three
  about_many : (l : List ℕ) → 4 < length l → about w l ≡ unknown
  about_many [] h = absurd (omega arith)
  about_many (a ∷ []) h = absurd (omega arith)
  about_many (a ∷ b ∷ []) h = refl
  about_many (a ∷ b ∷ c ∷ []) h = refl
  about_many (a ∷ b ∷ c ∷ d ∷ []) h = absurd (omega arith)
  about_many (a ∷ b ∷ c ∷ d ∷ e ∷ l) h = refl

  pub about_other : (l : List ℕ) → (length l ≡ 0 → ⊥) → (length l ≡ 1 → ⊥) → (length l ≡ 4 → ⊥) → about w l ≡ unknown
  about_other [] p q r = absurd (p refl)
  about_other (a ∷ []) p q r = absurd (q refl)
  about_other (a ∷ b ∷ []) p q r = refl
  about_other (a ∷ b ∷ c ∷ []) p q r = refl
  about_other (a ∷ b ∷ c ∷ d ∷ []) p q r = absurd (r refl)
  about_other (a ∷ b ∷ c ∷ d ∷ e ∷ l) p q r = refl

  -- words that are no numbers, or too many
  pub asked_unfit : (ws : List (List ℕ)) → Unfit ws → asked_by (w ∷ ws) ≡ unknown
  asked_unfit ws (other e) = ap (λ b. cond b (about w (map number_of ws)) unknown) e
  asked_unfit ws (many h) = go (all_numbers ws)
    where
      go : (b : Bool) → cond b (about w (map number_of ws)) unknown ≡ unknown
      go true = about_many (map number_of ws) (omega (arith, length-map ws number_of))
      go false = refl

  pub asked_given : (values : List ℕ) (ws : List (List ℕ)) → Given values ws → asked_by (w ∷ ws) ≡ about w values
  asked_given values ws g = ap₂ (λ b l. cond b (about w l) unknown) g.numbers g.same

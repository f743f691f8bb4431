-- Laws of a list that a loop fills part by part: the start, one part more, the end, and what stands in it meanwhile.
use mathlib.Core.Path.{◌≡◌, refl, sym, ap, ◌∙◌}
use mathlib.Core.List.{List, [], ◌∷◌, ◌++◌}
use lib.ListN.{length, get_or, set, replicate, get_or-eq_default}
use lib.Seq.{sets, length-sets}
use native.Mathlib.Numerals.{add-one}
use native.Mathlib.Omega.{arith}
use Prim.Native.Nat.{ℕ, zero, suc, ◌+◌, ◌≤◌, ◌<◌}
use Rattle.meaning.specs.Reference.Answers.{list_below, join_below}
use Rattle.meaning.proofs.Basic.Entries.{list_length, list_at, sets_append}
use Rattle.loops.specs.Written.{Written, Filling}
use Rattle.loops.proofs.Stored.{filled_at}

module _ {X : Type 0} (l₀ : List X) (at n : ℕ) (f : ℕ → List X) where
  pub written_start : Written l₀ at n f 0 l₀
  written_start = record { reached = omega arith; long = refl; same = refl }

  pub written_more : (k place : ℕ) (l l' : List X) → k < n → place ≡ at + length (join_below k f) → l' ≡ sets l place (f k)
      → Written l₀ at n f k l → Written l₀ at n f (k + 1) l'
  written_more k place l l' h e s w =
      record {
        reached = omega arith;
        long = ap length s ∙ length-sets l place (f k) ∙ w.long;
        same = s ∙ rw (w.same, e, add-one k) (sym (sets_append (join_below k f) (f k) l₀ at));
      }

  pub written_end : (k : ℕ) (l : List X) → n ≡ k → Written l₀ at n f k l → l ≡ sets l₀ at (join_below n f)
  written_end k l e w = rw e w.same

-- parts of one member each
pub join_list : {X : Type 0} (g : ℕ → X) (n : ℕ) → join_below n (λ k. g k ∷ []) ≡ list_below n g
join_list g zero = refl
join_list g (suc n) = ap (λ l. l ++ (g n ∷ [])) (join_list g n)

module _ {X : Type 0} {l₀ : List X} {at n : ℕ} {f : ℕ → X} where
  pub filling_start : Filling l₀ at n f 0 l₀
  filling_start = written_start l₀ at n (λ k. f k ∷ [])

  pub filling_more : {k place : ℕ} {l : List X} → Filling l₀ at n f k l → k < n → place ≡ at + k → {v : X} → v ≡ f k
      → Filling l₀ at n f (k + 1) (set l place v)
  filling_more {k} {place} {l} w h p {v} e =
      written_more l₀ at n (λ k. f k ∷ []) k place l (set l place v) h (rw (join_list f k) (omega (arith, list_length k f))) (ap (set l place) e) w

  pub filling_end : {k : ℕ} {l : List X} → Filling l₀ at n f k l → n ≤ k → l ≡ sets l₀ at (list_below n f)
  filling_end {k} {l} w h = written_end l₀ at n (λ k. f k ∷ []) k l (omega (arith, w.reached)) w ∙ ap (sets l₀ at) (join_list f n)

module _ {X : Type 0} (g : ℕ → X) where
  pub singles_more : (l₀ : List X) (n k : ℕ) (l : List X) (v : X) → k < n → v ≡ g k → Filling l₀ 0 n g k l → Filling l₀ 0 n g (k + 1) (sets l k (v ∷ []))
  singles_more l₀ n k l v h e w = filling_more w h (omega arith) e

  -- in an array that held d alone: what was stored, and d from there on
  module _ (d : X) (room n : ℕ) where
    singles_at : (k : ℕ) (l : List X) → k ≤ room → Filling (replicate room d) 0 n g k l → (j : ℕ) → get_or l j d ≡ get_or (list_below k g) j d
    singles_at k l h w j =
        ap (λ l. get_or l j d) w.same
        ∙ rw (join_list g k) (filled_at d room (list_below k g) (omega (arith, list_length k g)) j)

    pub singles_below : (k : ℕ) (l : List X) → k ≤ room → Filling (replicate room d) 0 n g k l → (j : ℕ) → j < k → get_or l j d ≡ g j
    singles_below k l h w j p = singles_at k l h w j ∙ list_at k g d j p

    pub singles_past : (k : ℕ) (l : List X) → k ≤ room → Filling (replicate room d) 0 n g k l → (j : ℕ) → k ≤ j → get_or l j d ≡ d
    singles_past k l h w j p = singles_at k l h w j ∙ get_or-eq_default (list_below k g) d {n = j} (omega (arith, list_length k g))

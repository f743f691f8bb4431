-- Successor sets that are filled while they are stored (specs/File/Grammar of crate meaning, filled_set and filled_from).
use mathlib.Core.Path.{◌≡◌, refl, sym, ap, ◌∙◌, subst}
use mathlib.Core.Bool.{true, false}
use mathlib.Core.List.{List, [], ◌∷◌, ◌++◌}
use lib.Dec.{T, eqb→eq}
use lib.ListN.{length, set}
use lib.Pow.{pow_pos}
use lib.Seq.{sets}
use native.Mathlib.Omega.{arith}
use Prim.Native.Nat.{ℕ, zero, suc, ◌+◌, ◌/◌, ◌^◌}
use Rattle.words.specs.Sets.{empty, insert}
use Rattle.words.proofs.Members.{insert_top}
use Rattle.meaning.specs.File.Grammar.{filled_set, filled_from}
use Rattle.meaning.proofs.File.Components.{filled_length}
use Rattle.parsing.proofs.Stores.{store_more}

-- the two cases of a set
pub empty_filled : (x v : ℕ) → empty v ≡ true → insert 0 x ≡ filled_set x v
unfolding empty
empty_filled x zero e = omega (arith, insert_top x 0 (pow_pos x))
empty_filled x (suc v) e = let z : suc v ≡ 0 = eqb→eq (suc v) 0 (subst T (sym e) tt) in absurd (omega arith)

pub some_filled : (x v : ℕ) → empty v ≡ false → v ≡ filled_set x v
unfolding empty
some_filled x zero e = let z : ◌≡◌ {A = ℕ} 0 1 = cc in absurd (omega arith)
some_filled x (suc v) e = refl

-- one set more
filled_more : (i p : ℕ) (vs : List ℕ) (v : ℕ) → filled_from i p (vs ++ (v ∷ [])) ≡ filled_from i p vs ++ (filled_set ((p + length vs) / 2 ^ i) v ∷ [])
filled_more i p [] v = let e : p ≡ p + 0 = omega arith in ap (λ q. filled_set (q / 2 ^ i) v ∷ []) e
filled_more i p (u ∷ vs) v =
    let e : suc p + length vs ≡ p + suc (length vs) = omega arith in
    ap (λ l. filled_set (p / 2 ^ i) u ∷ l) (filled_more i (suc p) vs v ∙ ap (λ q. filled_from i (suc p) vs ++ (filled_set (q / 2 ^ i) v ∷ [])) e)

pub store_filled : (i : ℕ) (out out₀ : List ℕ) (p : ℕ) (l : List ℕ) (v w : ℕ) → w ≡ filled_set (p / 2 ^ i) v → length l ≡ p
    → out ≡ sets out₀ 0 (filled_from i 0 l) → set out p w ≡ sets out₀ 0 (filled_from i 0 (l ++ (v ∷ [])))
store_filled i out out₀ p l v w e n h =
    let q : p ≡ 0 + length l = omega arith in
    store_more out out₀ p (filled_from i 0 l) w (filled_length i 0 l ∙ n) h
    ∙ ap (sets out₀ 0) (ap (λ w. filled_from i 0 l ++ (w ∷ [])) (e ∙ ap (λ (p : ℕ). filled_set (p / 2 ^ i) v) q) ∙ sym (filled_more i 0 l v))

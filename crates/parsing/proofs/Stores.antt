-- Lists that are stored while they are read.
use mathlib.Core.Path.{◌≡◌, refl, sym, ap, ◌∙◌}
use mathlib.Core.List.{List, [], ◌∷◌, ◌++◌, map, map-append}
use lib.ListN.{length, length-map, set}
use lib.Seq.{sets}
use native.Mathlib.Omega.{arith}
use Prim.Native.Nat.{ℕ, ◌+◌}
use Rattle.words.specs.Sets.{insert}
use Rattle.meaning.specs.File.Grammar.{with_all}
use Rattle.meaning.proofs.File.Progress.{sets_more}

-- the store of one turn
pub store_more : {A : Type 0} (out out₀ : List A) (i : ℕ) (l : List A) (v : A) → length l ≡ i → out ≡ sets out₀ 0 l
    → set out i v ≡ sets out₀ 0 (l ++ (v ∷ []))
store_more out out₀ i l v n h =
    let e : i ≡ 0 + length l = omega arith in
    rw (h, e) (sets_more out₀ 0 l v)

-- the set of the signals read so far
pub with_none : (set : ℕ) → set ≡ with_all set []
unfolding with_all
with_none set = refl

pub with_more : (set : ℕ) (vs : List ℕ) (v : ℕ) → insert (with_all set vs) v ≡ with_all set (vs ++ (v ∷ []))
unfolding with_all
with_more set [] v = refl
with_more set (a ∷ vs) v = with_more (insert set a) vs v

-- one number or node more, after those of a list from the front on
pub sets_map : {A B : Type 0} (f : A → B) (l : List B) (xs : List A) (x : A)
    → set (sets l 0 (map f xs)) (length xs) (f x) ≡ sets l 0 (map f (xs ++ (x ∷ [])))
sets_map f l xs x = store_more _ l (length xs) (map f xs) (f x) (length-map xs f) refl ∙ ap (sets l 0) (sym (map-append f xs (x ∷ [])))

-- The members of a list: listed numbers, and what holds of all members.
use mathlib.Core.Path.{◌≡◌, subst}
use mathlib.Core.Logic.{◌⊎◌, inl, inr}
use mathlib.Core.List.{List, [], ◌∷◌}
use lib.Dec.{T}
use lib.ListN.{get_or, length}
use native.Mathlib.Omega.{arith}
use Prim.Native.Nat.{◌<◌, suc, zero, ℕ}
use Rattle.meaning.specs.Tests.{All, listed}
use Rattle.meaning.proofs.Basic.Lists.{at_listed, listed_at}

-- the listed numbers of a list are its first and those of the others
pub listed_first : (v : ℕ) (vs : List ℕ) → T (listed (v ∷ vs) v)
listed_first v vs = at_listed (v ∷ vs) 0 (omega arith)

pub listed_others : (v : ℕ) (vs : List ℕ) (w : ℕ) → T (listed vs w) → T (listed (v ∷ vs) w)
listed_others v vs w h =
    let (j, l, e) = listed_at vs w h in
    subst (λ w. T (listed (v ∷ vs) w)) e (at_listed (v ∷ vs) (suc j) (omega (arith, l)))

pub listed_cons : (v : ℕ) (vs : List ℕ) (w : ℕ) → T (listed (v ∷ vs) w) → (v ≡ w) ⊎ T (listed vs w)
listed_cons v vs w h = let (j, l, e) = listed_at (v ∷ vs) w h in go j l e
  where
    go : (j : ℕ) → j < length (v ∷ vs) → get_or (v ∷ vs) j 0 ≡ w → (v ≡ w) ⊎ T (listed vs w)
    go zero l e = inl e
    go (suc j) l e = inr (subst (λ w. T (listed vs w)) e (at_listed vs j (omega arith)))

-- what holds of all members holds at each place, and of each listed number
pub all_at : {X : Type 0} (P : X → Type 0) (xs : List X) → All P xs → (d : X) (j : ℕ) → j < length xs → P (get_or xs j d)
all_at P [] h d j l = absurd (omega arith)
all_at P (x ∷ xs) h d zero l = h.0
all_at P (x ∷ xs) h d (suc j) l = all_at P xs h.1 d j (omega arith)

pub all_member : (P : ℕ → Type 0) (zs : List ℕ) → All P zs → (w : ℕ) → T (listed zs w) → P w
all_member P zs h w l = let (j, k, e) = listed_at zs w l in subst P e (all_at P zs h 0 j k)

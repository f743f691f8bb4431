-- A part of a list in which other members are stored: the list with them stored there.
use mathlib.Core.Path.{◌≡◌, sym, ap, ◌∙◌}
use mathlib.Core.List.{List, ◌++◌, append_assoc}
use lib.ListN.{length, take, drop, length-take, length-drop, take-append-drop}
use lib.Seq.{sets, sets-eq, drop-drop, drop-append-le}
use native.Mathlib.Nat.{zero-add}
use native.Mathlib.Omega.{arith}
use Prim.Native.Nat.{ℕ, ◌+◌, ◌≤◌}
use borrow.Rule.Slice.PartMut.{mid_of, put_mid}

-- the k members from a on
pub part_stored : {X : Type 0} (a k : ℕ) (xs vs : List X) → length vs ≤ k → a + k ≤ length xs
    → put_mid a k xs (sets (mid_of a k xs) 0 vs) ≡ sets xs a vs
part_stored a k xs vs h l =
    let long : length (mid_of a k xs) ≡ k = omega (arith, length-take k (drop a xs), length-drop a xs) in
    -- what follows them in the list, of which the first are in the part
    let rest : drop (length vs) (mid_of a k xs) ++ drop k (drop a xs) ≡ drop (a + length vs) xs =
    sym (drop-append-le (length vs) (mid_of a k xs) (drop k (drop a xs)) (omega arith))
    ∙ ap (drop (length vs)) (take-append-drop k (drop a xs))
    ∙ drop-drop (length vs) a xs
    in
    ap (λ ys. take a xs ++ (ys ++ drop k (drop a xs))) (sets-eq vs (mid_of a k xs) 0 (omega arith))
    ∙ rw zero-add
    (ap (λ ys. take a xs ++ ys) (append_assoc vs (drop (length vs) (mid_of a k xs)) (drop k (drop a xs)) ∙ ap (λ zs. vs ++ zs) rest)
    ∙ sym (append_assoc (take a xs) vs (drop (a + length vs) xs))
    ∙ sym (sets-eq vs xs a (omega arith)))

-- other members in their place
pub part_copied : {X : Type 0} (a k : ℕ) (xs ys : List X) → length ys ≡ k → a + k ≤ length xs → put_mid a k xs ys ≡ sets xs a ys
part_copied a k xs ys h l =
    ap (λ zs. take a xs ++ (ys ++ zs)) (drop-drop k a xs ∙ ap (λ n. drop (a + n) xs) (sym h))
    ∙ sym (append_assoc (take a xs) ys (drop (a + length ys) xs))
    ∙ sym (sets-eq ys xs a (omega arith))

-- A list that is stored in a part of an array, of which the code cuts w members from a on.
use mathlib.Core.Path.{◌≡◌, ap, ◌∙◌}
use mathlib.Core.List.{List}
use lib.ListN.{length, drop, length-take, length-drop}
use lib.Seq.{sets}
use native.Mathlib.Omega.{arith}
use Prim.Native.Nat.{ℕ, ◌+◌, ◌-◌, ◌*◌, ◌≤◌}
use borrow.Rule.Slice.PartMut.{mid_of, put_mid}
use Rattle.loops.proofs.Parts.{part_stored}

module _ {X : Type 0} (a k w : ℕ) (xs : List X) (e : w ≡ k) (h : a + k ≤ length xs) where
  pub part_length : length (mid_of a w xs) ≡ k
  part_length = omega (arith, length-take w (drop a xs), length-drop a xs)

  -- f has the list for each length of the part
  pub in_part : (f : ℕ → List X) (ys : List X) → length (f k) ≤ k → ys ≡ sets (mid_of a w xs) 0 (f (length (mid_of a w xs)))
      → put_mid a w xs ys ≡ sets xs a (f k)
  in_part f ys few s =
      ap (put_mid a w xs) (s ∙ ap (λ n. sets (mid_of a w xs) 0 (f n)) part_length) ∙ part_stored a w xs (f k) (omega arith) (omega arith)

-- the first k places of part c of an array that has `most` places for each part, as the code cuts them; and the array with other members there
abbrev pub row_of : {X : Type 0} → ℕ → ℕ → ℕ → List X → List X
row_of most c k xs = mid_of (most * c) (most * c + k - most * c) xs

abbrev pub put_row : {X : Type 0} → ℕ → ℕ → ℕ → List X → List X → List X
put_row most c k xs ys = put_mid (most * c) (most * c + k - most * c) xs ys

module _ {X : Type 0} (most c k : ℕ) (xs : List X) (few : k ≤ most) (room : most * c + most ≤ length xs) where
  cut : most * c + k - most * c ≡ k
  cut = omega arith

  within : most * c + k ≤ length xs
  within = omega arith

  pub in_row : (f : ℕ → List X) (ys : List X) → length (f k) ≤ k → ys ≡ sets (row_of most c k xs) 0 (f (length (row_of most c k xs)))
      → put_row most c k xs ys ≡ sets xs (most * c) (f k)
  in_row = in_part (most * c) k (most * c + k - most * c) xs cut within

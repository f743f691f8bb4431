-- A class line from names that agree, and from the first names of a row.
use mathlib.Core.Path.{◌≡◌, ap, ◌∙◌}
use mathlib.Core.List.{List, ◌++◌}
use lib.ListN.{length, get_or, take}
use lib.Seq.{length-take-le, get_or-take}
use Prim.Native.Nat.{ℕ, ◌≤◌, ◌<◌}
use Rattle.meaning.proofs.Basic.Entries.{join_same}
use Rattle.answers.specs.Listing.{decimal, space, line_end, component_label, classes_label, class_line}
use Rattle.listing_lines.specs.Lines.{named_line}

-- names that agree make the same line
pub line_same : (i states : ℕ) (f g : ℕ → ℕ) → ((x : ℕ) → x < states → f x ≡ g x) → class_line i states f ≡ class_line i states g
line_same i states f g h =
    ap (λ l. component_label ++ (decimal i ++ (classes_label ++ (l ++ line_end))))
    (join_same states (λ x. space ++ decimal (f x)) (λ x. space ++ decimal (g x)) (λ x l. ap (λ v. space ++ decimal v) (h x l)))

-- the line of the first names
pub line_front : (i states : ℕ) (names : List ℕ) → states ≤ length names → named_line i (take states names) ≡ class_line i states (λ x. get_or names x 0)
line_front i states names h =
    ap (λ m. class_line i m (λ x. get_or (take states names) x 0)) (length-take-le states names h)
    ∙ line_same i states (λ x. get_or (take states names) x 0) (λ x. get_or names x 0) (λ x l. get_or-take states names x 0 l)

-- A test of some number of a range.
use mathlib.Core.Path.{◌≡◌, refl, sym, ap, ◌∙◌}
use mathlib.Core.Bool.{Bool, ◌||◌}
use mathlib.Core.List.{List, [], ◌∷◌}
use lib.ListN.{length, get_or}
use Prim.Native.Nat.{ℕ, ◌+◌}
use native.Mathlib.Omega.{arith}
use Rattle.std.specs.List.{list_any, range_with_len}
use Rattle.std.proofs.lemmas.List.FromFn.{length-range_with_len, get_or-range_with_len}
use Rattle.meaning.specs.Tests.{any_below}
use Rattle.meaning.specs.Reference.Tests.{any_of}
use Rattle.meaning.proofs.Basic.Bounded.{any_count}
use Rattle.meaning.proofs.Basic.Lists.{any_of_places}

list_any_places : (p : ℕ → Bool) (ws : List ℕ) → list_any p ws ≡ any_below (length ws) (λ a. p (get_or ws a 0))
list_any_places p ws = same ws ∙ sym (any_of_places p 0 ws)
  where
    same : (ws : List ℕ) → list_any p ws ≡ any_of p ws
    same [] = refl
    same (w ∷ ws) = ap (λ b. p w || b) (same ws)

pub range_any : (n : ℕ) (f : ℕ → Bool) → list_any f (range_with_len 0 n) ≡ any_below n f
range_any n f =
    list_any_places f (range_with_len 0 n)
    ∙ any_count (length (range_with_len 0 n)) n (λ a. f (get_or (range_with_len 0 n) a 0)) f (length-range_with_len 0 n) (λ j l.
    let e : 0 + j ≡ j = omega arith in
    ap f (get_or-range_with_len 0 n j 0 (omega (arith, length-range_with_len 0 n)) ∙ e))

-- Sets united: one set more.
use mathlib.Core.Path.{◌≡◌, sym, ap, ◌∙◌}
use native.Mathlib.Numerals.{add-one}
use Prim.Native.Nat.{ℕ, ◌+◌, ◌^◌, ◌<◌}
use Rattle.words.specs.Sets.{has, union}
use Rattle.words.proofs.Built.{built_has, built_union}
use Rattle.meaning.specs.Tests.{any_below}
use Rattle.refinement.specs.Again.{united_to}

pub united_more : (n : ℕ) (f : ℕ → ℕ) (a : ℕ) → f a < 2 ^ n → union (f a) (united_to n f a) ≡ united_to n f (a + 1)
united_more n f a b =
    rw (add-one a) (ap (λ w. union w (united_to n f a)) (sym (built_has n (f a) b)) ∙ built_union n (has (f a)) (λ v. any_below a (λ a. has (f a) v)))

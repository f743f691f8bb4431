-- Words written one after the other.
use mathlib.Core.Path.{◌≡◌, refl, ◌∙◌}
use mathlib.Core.List.{List}
use Prim.Native.Nat.{ℕ, ◌+◌, ◌<◌}
use native.Mathlib.Nat.{not-suc-le-zero}
use native.Mathlib.Omega.{arith}
use lib.ListN.{length, get_or, set, length-set}
use lib.Seq.{get_or-set_same, get_or-set_other}
use borrow.Author.Count.{below_more}
use Rattle.words.specs.First.{First}

module _ (f : ℕ → ℕ) (old : List ℕ) where
  pub first_start : First 0 f old old
  first_start = record { long = refl; each = λ s l. absurd (not-suc-le-zero l); past = λ s l. refl }

  module _ {s : ℕ} {new : List ℕ} (h : First s f old new) (l : s < length old) where
    -- the next word is stored, or is right as it was
    pub first_set : (v : ℕ) → v ≡ f s → First (s + 1) f old (set new s v)
    first_set v e =
        record {
          long = length-set new s v ∙ h.long;
          each = below_more _ s (λ u p. get_or-set_other new s u v 0 (λ q. omega arith) ∙ h.each u p)
              (get_or-set_same new s v 0 (omega (arith, h.long)) ∙ e);
          past = λ u p. get_or-set_other new s u v 0 (λ q. omega arith) ∙ h.past u (omega arith);
        }

    pub first_keep : get_or old s 0 ≡ f s → First (s + 1) f old new
    first_keep e =
        record { long = h.long; each = below_more _ s h.each (h.past s (omega arith) ∙ e); past = λ u p. h.past u (omega arith) }

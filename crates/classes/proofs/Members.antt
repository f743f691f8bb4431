-- Start, turn and end of the loop that unites the rows of a set's members; a test that each member passes.
use mathlib.Core.Path.{◌≡◌, sym, subst, ap, ◌∙◌}
use mathlib.Core.Logic.{◌⊎◌, inl, inr, ◌≢◌}
use mathlib.Core.Bool.{Bool, ◌&&◌, ◌||◌}
use mathlib.Core.List.{List}
use lib.Dec.{T}
use lib.ListN.{get_or}
use Prim.Native.Nat.{ℕ, ◌^◌, ◌<◌}
use Rattle.words.specs.Sets.{has, built, below, intersection, union, subset, without, lowest}
use Rattle.words.proofs.Members.{has_intersection, has_lt, has_none, has_union, intersection_lt_r, subset_in, subset_out}
use Rattle.words.proofs.Built.{built_has, built_same}
use Rattle.words.proofs.Passing.{passing_start, passing_next, passing_more, passing_end}
use Rattle.meaning.specs.Tests.{any_below}
use Rattle.meaning.proofs.Basic.Booleans.{and_in, and_l, and_r, and_when, is_true, or_l, or_r, or_out, test_eq}
use Rattle.meaning.proofs.Basic.Bounded.{any_in, any_out}
use Rattle.classes.specs.Rows.{rel}
use Rattle.classes.specs.Loops.{Joining}
use Rattle.classes.proofs.Row.{cut_row}

-- ---- the rows of the members united
pub joining_start : (w : ℕ) (r : List ℕ) → Joining w r 0 w
joining_start w r = record { passing = passing_start w _; from = λ u h. absurd (subst T (has_none u) h) }

pub joining_more : (k : ℕ) {w : ℕ} {r : List ℕ} {m rest : ℕ} → Joining w r m rest → w < 2 ^ k → rest ≢ 0 → {more left : ℕ}
    → more ≡ union (get_or r (lowest k rest) 0) m → left ≡ without k rest (lowest k rest) → Joining w r more left
joining_more k {w} {r} {m} {rest} h f n {more} e d =
    record {
      passing = passing_more k h.passing f n d (λ t p u i. into u (or_r (rel r z u) (has m u) (p u i)))
          (λ u i. into u (or_l (rel r z u) (has m u) i));
      from = λ u i. on u (or_out (rel r z u) (has m u) (subst T (here u) i));
    }
  where
    z : ℕ
    z = lowest k rest

    here : (u : ℕ) → has more u ≡ (rel r z u || has m u)
    here u = ap (λ v. has v u) e ∙ has_union (get_or r z 0) m u

    into : (u : ℕ) → T (rel r z u || has m u) → T (has more u)
    into u i = subst T (sym (here u)) i

    on : (u : ℕ) → T (rel r z u) ⊎ T (has m u) → (v : ℕ) × T (has w v) × T (rel r v u)
    on u (inl i) = (z, passing_next k h.passing f n, i)
    on u (inr i) = h.from u i

pub joining_end : (n : ℕ) {w : ℕ} {r : List ℕ} {m : ℕ} → w < 2 ^ n → Joining w r m 0
    → intersection (below n) m ≡ built n (λ u. any_below n (λ v. has w v && rel r v u))
joining_end n {w} {r} {m} f h =
    cut_row n m (λ u. any_below n (some u)) (λ u l. test_eq (has m u) (any_below n (some u))
    (λ i.
    let (v, a, b) = h.from u i in
    any_in n (some u) v (has_lt n w v f a) (and_in (has w v) (rel r v u) a b))
    (λ i.
    let (v, a, b) = any_out n (some u) i in
    passing_end h.passing v (and_l (has w v) (rel r v u) b) u (and_r (has w v) (rel r v u) b)))
  where
    some : ℕ → ℕ → Bool
    some u v = has w v && rel r v u

-- a test that every member passes
pub passed_all : (n : ℕ) (f : ℕ → Bool) (w : ℕ) → w < 2 ^ n → ((t : ℕ) → T (f t)) → w ≡ built n (λ t. has w t && f t)
passed_all n f w b h =
    sym (built_has n w b) ∙ built_same n (has w) (λ t. has w t && f t) (λ t l. sym (and_when (has w t) (f t) (is_true (f t) (h t))))

-- what lies in m lies there also where it is cut
pub cut_subset : (n w live m : ℕ) → live < 2 ^ n → T (subset live m) → T (subset (intersection w live) m)
cut_subset n w live m b h =
    subset_in n (intersection w live) m (intersection_lt_r n w live b) (λ t l i.
    subset_out live m h t (and_r (has w t) (has live t) (subst T (has_intersection w live t) i)))

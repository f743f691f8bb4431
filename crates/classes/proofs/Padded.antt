-- Lists of f 0, f 1, .. up to a count, and 0 from there on: their elements, and how a loop fills them.
use mathlib.Core.Path.{◌≡◌, refl, sym, ap, ◌∙◌}
use mathlib.Core.List.{List, [], ◌∷◌}
use lib.ListN.{length, get_or, set, replicate, length-replicate, get_or-eq_default}
use lib.Seq.{sets, length-sets, ext_get_or}
use native.Mathlib.Decide.{dec_lt}
use native.Mathlib.Numerals.{add-one}
use native.Mathlib.Omega.{arith}
use Prim.Native.Nat.{ℕ, ◌+◌, ◌≤◌, ◌<◌}
use Rattle.meaning.specs.Reference.Answers.{list_below}
use Rattle.meaning.proofs.Basic.Entries.{list_length, list_at, list_same, sets_append}
use Rattle.loops.proofs.Stored.{filled_at}
use Rattle.classes.specs.Rows.{padded}

pub length_padded : (k n : ℕ) (f : ℕ → ℕ) → length (padded k n f) ≡ k
unfolding padded
length_padded k n f = length-sets (replicate k 0) 0 (list_below n f) ∙ length-replicate k 0

-- the element at x: f x below n, and 0 from n on
pub padded_at : (k n : ℕ) (f : ℕ → ℕ) (x : ℕ) → x < n → n ≤ k → get_or (padded k n f) x 0 ≡ f x
unfolding padded
padded_at k n f x l m = filled_at 0 k (list_below n f) (omega (arith, list_length n f)) x ∙ list_at n f 0 x l

pub padded_past : (k n : ℕ) (f : ℕ → ℕ) (x : ℕ) → n ≤ x → get_or (padded k n f) x 0 ≡ 0
unfolding padded
padded_past k n f x l =
    elim (dec_lt x k) [
      | yes m ↦
          filled_at 0 k (list_below n f) (omega (arith, list_length n f)) x
          ∙ get_or-eq_default (list_below n f) 0 {n = x} (omega (arith, list_length n f))
      | no m ↦ get_or-eq_default (padded k n f) 0 (omega (arith, length_padded k n f))
    ]

-- a list of k numbers with those elements is that list
pub padded_is : (k n : ℕ) (f : ℕ → ℕ) (l : List ℕ) → n ≤ k → length l ≡ k → ((x : ℕ) → x < n → get_or l x 0 ≡ f x)
    → ((x : ℕ) → n ≤ x → x < k → get_or l x 0 ≡ 0) → l ≡ padded k n f
padded_is k n f l m e inside past =
    ext_get_or 0 l (padded k n f) (e ∙ sym (length_padded k n f)) (λ x h.
    elim (dec_lt x n) [
      | yes p ↦ inside x p ∙ sym (padded_at k n f x p m)
      | no p ↦ past x (omega arith) (omega arith) ∙ sym (padded_past k n f x (omega arith))
    ])

pub padded_same : (k n : ℕ) (f g : ℕ → ℕ) → n ≤ k → ((x : ℕ) → x < n → f x ≡ g x) → padded k n f ≡ padded k n g
unfolding padded
padded_same k n f g m h = ap (sets (replicate k 0) 0) (list_same n f g h)

-- filled from 0 on: at first nothing, then one more
pub padded_none : (k : ℕ) (f : ℕ → ℕ) → replicate k 0 ≡ padded k 0 f
unfolding padded
padded_none k f = refl

pub padded_more : (k n : ℕ) (f : ℕ → ℕ) → set (padded k n f) n (f n) ≡ padded k (n + 1) f
unfolding padded
padded_more k n f =
    let e : n ≡ 0 + length (list_below n f) = omega (arith, list_length n f) in
    ap (λ i. sets (sets (replicate k 0) 0 (list_below n f)) i (f n ∷ [])) e
    ∙ rw (add-one n) (sym (sets_append (list_below n f) (f n ∷ []) (replicate k 0) 0))

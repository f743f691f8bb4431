-- What is compared of a component's outputs, bit by bit, and that marks do not depend on it (document 02, 3/14).
use mathlib.Core.Path.{◌∙◌, ◌≡◌, ap, ap₂, refl, subst, sym}
use mathlib.Core.Logic.{◌↔◌, ◌⊎◌}
use mathlib.Core.Bool.{Bool, ◌&&◌, not}
use lib.Dec.{T, T_not, eqb, eqb_refl, eqb→eq, not_T}
use lib.ListN.{get_or, length}
use Prim.Native.Nat.{◌<◌, ◌^◌, ℕ}
use Rattle.words.specs.Sets.{has}
use Rattle.words.proofs.Built.{built_lt, has_built}
use Rattle.words.proofs.Members.{has_intersection, intersection_lt, same_members}
use Rattle.meaning.specs.Formula.{Formula, atom, eg, eu, ex, neg, or, top}
use Rattle.meaning.specs.Marks.{Fail, Largest, Least, Meets, Move, Must, Pass, Stays}
use Rattle.meaning.specs.Seen.{ReadByAnother, read_elsewhere, read_outputs}
use Rattle.meaning.specs.Table.{Table, owns}
use Rattle.meaning.specs.Tests.{any_below, listed}
use Rattle.meaning.specs.View.{View, comparing, recompared}
use Rattle.meaning.proofs.Basic.Booleans.{and_in, and_l, and_r, and_same, is_true, test_eq}
use Rattle.meaning.proofs.Basic.Bounded.{any_in, any_out, any_same}

module _ (n : ℕ) (S : ℕ → Table) (i : ℕ) where
  abbrev t : Table
  t = S i

  -- another component lists the signal, tested
  pub read_means : (w : ℕ) → T (read_elsewhere n S i w) ↔ ReadByAnother n S i w
  read_means w = (
    λ h. let (j, l, r) = any_out n other h in (j, l, (λ e. T_not (eqb j i) (and_l (not (eqb j i)) (reads j) r) (rw e (eqb_refl i))), and_r (not (eqb j i)) (reads j) r),
    λ (j, l, z, r). any_in n other j l (and_in (not (eqb j i)) (reads j) (not_T (eqb j i) (λ e. z (eqb→eq j i e))) r),
  )
    where
      reads : ℕ → Bool
      reads j = listed (S j).inputs w

      other : ℕ → Bool
      other j = not (eqb j i) && reads j

  abbrev read : ℕ → Bool
  read b = read_elsewhere n S i (get_or t.outputs b 0)

  -- a bit of what is compared
  compared_at : (x b : ℕ) → b < length t.outputs → has ((comparing (read_outputs n S i) t).compared x) b ≡ (read b && has (t.out x) b)
  compared_at x b l = has_intersection (read_outputs n S i) (t.out x) b ∙ ap (λ r. r && has (t.out x) b) (has_built (length t.outputs) read b l)

  -- equal in what is compared: equal in each output that another component lists as an input, and only in those
  pub compared_means : (x y : ℕ)
      → ((comparing (read_outputs n S i) t).compared x ≡ (comparing (read_outputs n S i) t).compared y)
      ↔ ((b : ℕ) → b < length t.outputs → ReadByAnother n S i (get_or t.outputs b 0) → has (t.out x) b ≡ has (t.out y) b)
  compared_means x y = (
    λ e b l r.
        let m = is_true (read b) ((read_means (get_or t.outputs b 0)).1 r) in
        sym (compared_at x b l ∙ ap (λ r. r && has (t.out x) b) m) ∙ (ap (λ w. has w b) e ∙ (compared_at y b l ∙ ap (λ r. r && has (t.out y) b) m)),
    λ h. same_members (length t.outputs) _ _ (small x) (small y) (λ b l.
        compared_at x b l ∙ (and_same (read b) (has (t.out x) b) (has (t.out y) b) (λ r. h b l ((read_means (get_or t.outputs b 0)).0 r)) ∙ sym (compared_at y b l))),
  )
    where
      small : (x : ℕ) → (comparing (read_outputs n S i) t).compared x < 2 ^ length t.outputs
      small x = intersection_lt (length t.outputs) (read_outputs n S i) (t.out x) (built_lt (length t.outputs) read)

  -- where no output is an own input, another component lists an output exactly if any component does
  pub read_anywhere : ((w : ℕ) → T (owns t w) → T (listed t.inputs w) → ⊥) → (b : ℕ) → b < length t.outputs
      → any_below n (λ j. listed (S j).inputs (get_or t.outputs b 0)) ≡ read b
  read_anywhere own b l = any_same n (λ j. listed (S j).inputs w) (λ j. not (eqb j i) && listed (S j).inputs w) (λ j k. each j)
    where
      w : ℕ
      w = get_or t.outputs b 0

      owned : T (owns t w)
      owned = any_in (length t.outputs) (λ j. eqb (get_or t.outputs j 0) w) b l (eqb_refl w)

      each : (j : ℕ) → listed (S j).inputs w ≡ (not (eqb j i) && listed (S j).inputs w)
      each j =
          test_eq (listed (S j).inputs w) (not (eqb j i) && listed (S j).inputs w)
          (λ h. and_in (not (eqb j i)) (listed (S j).inputs w) (not_T (eqb j i) (λ e. own w owned (subst (λ j. T (listed (S j).inputs w)) (eqb→eq j i e) h))) h)
          (and_r (not (eqb j i)) (listed (S j).inputs w))

-- marks take atoms from the view, and nothing of what is compared
module _ {A : Type 0} (t : Table) (κ : View A) (d : ℕ → ℕ) where
  pub marks_same : (φ : Formula A) → (Pass t κ φ ≡ Pass t (recompared κ d) φ) × (Fail t κ φ ≡ Fail t (recompared κ d) φ)
  marks_same top = (refl, refl)
  marks_same (atom a) = (refl, refl)
  marks_same (neg φ) = let h = marks_same φ in (h.1, h.0)
  marks_same (or φ ψ) =
      let h = marks_same φ in
      let g = marks_same ψ in
      (ap₂ (λ P Q. λ x. P x ⊎ Q x) h.0 g.0, ap₂ (λ P Q. λ x. P x × Q x) h.1 g.1)
  marks_same (ex φ) = let h = marks_same φ in (ap (λ P. Must t P) h.0, ap (λ P. λ x. (y : ℕ) → Move t x y → P y) h.1)
  marks_same (eg φ) = let h = marks_same φ in (ap (λ P. Largest t P) h.0, ap (λ P. Meets t P) h.1)
  marks_same (eu φ ψ) =
      let h = marks_same φ in
      let g = marks_same ψ in
      (ap₂ (λ P Q. Least t P Q) h.0 g.0, ap₂ (λ P Q. Stays t P Q) h.1 g.1)

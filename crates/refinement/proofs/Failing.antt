-- The pairs of a row that are noted and not fine, word by word.
use mathlib.Core.Path.{◌≡◌, refl, sym, subst, ap, ap₂, ◌∙◌}
use mathlib.Core.Bool.{Bool, true, false, not, ◌&&◌, ◌||◌, cond}
use Prim.Native.Nat.{ℕ, ◌^◌, ◌<◌}
use Rattle.words.specs.Sets.{has, built, complement, intersection}
use Rattle.words.proofs.Members.{has_intersection, has_union, intersection_lt_r, same_members}
use Rattle.words.proofs.Built.{built_lt, complement_lt, has_built, has_complement}
use Rattle.mark_rules.specs.declared.Mark.{Mark}
use Rattle.refinement.specs.Again.{known_b, known_with}
use Rattle.classes.proofs.Row.{has_picked}

pub has_known : (mark : Mark) (x y : ℕ) → has (known_with mark x) y ≡ known_b mark x y
unfolding known_with
has_known mark x y =
    has_union (cond (has mark.pass x) mark.pass 0) (cond (has mark.fail x) mark.fail 0) y
    ∙ ap₂ (λ a b. a || b) (has_picked (has mark.pass x) mark.pass y) (has_picked (has mark.fail x) mark.fail y)

failed_test : (p k m : Bool) → ((p && not k) && not ((p && not k) && m)) ≡ (p && not (k || m))
failed_test true true m = refl
failed_test true false m = refl
failed_test false k m = refl

-- the noted pairs that are not known, cut to the states
module _ (n row again : ℕ) (mark : Mark) (x : ℕ) where
  abbrev pub noted : ℕ
  noted = intersection (intersection row again) (complement n (known_with mark x))

  pub noted_narrow : noted < 2 ^ n
  noted_narrow = intersection_lt_r n (intersection row again) (complement n (known_with mark x)) (complement_lt n (known_with mark x))

  noted_at : (y : ℕ) → y < n → has noted y ≡ ((has row y && has again y) && not (known_b mark x y))
  noted_at y l =
      has_intersection (intersection row again) (complement n (known_with mark x)) y
      ∙ ap₂ (λ a b. a && b) (has_intersection row again y)
      (has_complement n (known_with mark x) y l ∙ ap not (has_known mark x y))

  failing_row : (m : ℕ → Bool) (kept : ℕ) → kept ≡ built n (λ y. has noted y && m y)
      → intersection noted (complement n kept) ≡ built n (λ y. (has row y && has again y) && not (known_b mark x y || m y))
  failing_row m kept e =
      same_members n (intersection noted (complement n kept)) (built n want) (intersection_lt_r n noted (complement n kept) (complement_lt n kept))
      (built_lt n want) (λ y l.
      has_intersection noted (complement n kept) y
      ∙ (ap (λ b. has noted y && b) (has_complement n kept y l ∙ ap not (ap (λ w. has w y) e ∙ has_built n (λ y. has noted y && m y) y l))
      ∙ (ap (λ o. o && not (o && m y)) (noted_at y l)
      ∙ (failed_test (has row y && has again y) (known_b mark x y) (m y) ∙ sym (has_built n want y l)))))
    where
      want : ℕ → Bool
      want y = (has row y && has again y) && not (known_b mark x y || m y)

  -- step by step as the code makes it
  pub failing_is : (m : ℕ → Bool) {known free both among kept out made : ℕ} → known ≡ known_with mark x → free ≡ complement n known
      → both ≡ intersection row again → among ≡ intersection both free → kept ≡ built n (λ y. has among y && m y) → out ≡ complement n kept
      → made ≡ intersection among out → made ≡ built n (λ y. (has row y && has again y) && not (known_b mark x y || m y))
  failing_is m {among = among} {kept = kept} a b c d e f g =
      let h : among ≡ noted = d ∙ rw (c, b, a) in
      g ∙ (ap₂ (λ p q. intersection p q) h f ∙ failing_row m kept (subst (λ w. kept ≡ built n (λ y. has w y && m y)) h e))

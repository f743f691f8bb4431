-- The computed verdict is the right one, and the only one.
use mathlib.Core.Path.{◌≡◌, ap₂, refl, subst, sym}
use mathlib.Core.Logic.{◌↔◌, inl, inr}
use mathlib.Core.Bool.{Bool, false, true}
use mathlib.Core.List.{List}
use lib.Dec.{T}
use Rattle.meaning.specs.Reference.Tests.{all_of, any_of}
use Rattle.meaning.specs.Reference.Verdict.{answer_b, staged}
use Rattle.meaning.specs.Tests.{All, Any}
use Rattle.meaning.specs.Verdict.{Answer, Decided, RightOf, Stage, Verdict, fails, holds, judged, marks, merged, oversized}
use Rattle.meaning.proofs.Basic.Lists.{all_map, all_test, any_not, any_test}

abbrev IsHolds : Verdict → Type 0
IsHolds holds = Unit {0}
IsHolds fails = ⊥

abbrev IsMarks : Stage → Type 0
IsMarks marks = Unit {0}
IsMarks merged = ⊥

fails_holds : fails ≡ holds → ⊥
fails_holds e = subst IsHolds (sym e) tt

merged_marks : merged ≡ marks → ⊥
merged_marks e = subst IsMarks (sym e) tt

-- tests of what marks tell, of room and of truth, where marks tell the truth
module _
    (failing passing satisfied room : Type 0)
    (passes : passing → satisfied)
    (refutes : failing → satisfied → ⊥)
  where
    neither : ⊥ ↔ failing → ⊥ ↔ passing → Decided failing passing → ⊥
    neither x y (inl k) = x.1 k
    neither x y (inr k) = y.1 k

    by_marks_lem : (v : Verdict) → ((v ≡ holds) ↔ satisfied) → Decided failing passing → RightOf failing passing satisfied room (judged v marks)
    by_marks_lem v d h = (record { verdict = d; stage = (λ e. h, λ h. refl) }, inl refl)

    by_merging : (v : Verdict) → ((v ≡ holds) ↔ satisfied) → (Decided failing passing → ⊥) → room
        → RightOf failing passing satisfied room (judged v merged)
    by_merging v d h k = (record { verdict = d; stage = (λ e. absurd (merged_marks e), λ z. absurd (h z)) }, inr k)

    pub right_staged : (a b m d : Bool) → T a ↔ failing → T b ↔ passing → T m ↔ room → T d ↔ satisfied
        → RightOf failing passing satisfied room (staged a b m d)
    right_staged true b m d x y q z = by_marks_lem fails (λ e. absurd (fails_holds e), λ h. absurd (refutes (x.0 tt) h)) (inl (x.0 tt))
    right_staged false true m d x y q z = by_marks_lem holds (λ e. passes (y.0 tt), λ h. refl) (inr (y.0 tt))
    right_staged false false false d x y q z = (neither x y, q.1)
    right_staged false false true true x y q z = by_merging holds (λ e. z.0 tt, λ h. refl) (neither x y) (q.0 tt)
    right_staged false false true false x y q z = by_merging fails (λ e. absurd (fails_holds e), λ h. absurd (z.1 h)) (neither x y) (q.0 tt)

-- tests that decide P, F, R and room, where P gives R and F refutes it
module _
    {X : Type 0}
    (P F R : X → Type 0)
    (room : Type 0)
    (p f r : X → Bool)
    (m : Bool)
    (dp : (x : X) → T (p x) ↔ P x)
    (df : (x : X) → T (f x) ↔ F x)
    (dr : (x : X) → T (r x) ↔ R x)
    (dm : T m ↔ room)
    (passes : (x : X) → P x → R x)
    (refutes : (x : X) → F x → R x → ⊥)
  where
    pub right : (ss : List X) → RightOf (Any F ss) (All P ss) (All R ss) room (answer_b p f r m ss)
    right ss =
        right_staged (Any F ss) (All P ss) (All R ss) room (all_map passes ss) (any_not refutes ss) (any_of f ss) (all_of p ss) m (all_of r ss)
        (any_test F f df ss) (all_test P p dp ss) dm (all_test R r dr ss)

-- there is only one right answer
module _ (failing passing satisfied room : Type 0) where
  same_verdict : (v w : Verdict) → (v ≡ holds) ↔ satisfied → (w ≡ holds) ↔ satisfied → v ≡ w
  same_verdict holds holds a b = refl
  same_verdict holds fails a b = absurd (fails_holds (b.1 (a.0 refl)))
  same_verdict fails holds a b = absurd (fails_holds (a.1 (b.0 refl)))
  same_verdict fails fails a b = refl

  same_stage : (g h : Stage) → (g ≡ marks) ↔ Decided failing passing → (h ≡ marks) ↔ Decided failing passing → g ≡ h
  same_stage marks marks a b = refl
  same_stage marks merged a b = absurd (merged_marks (b.1 (a.0 refl)))
  same_stage merged marks a b = absurd (merged_marks (a.1 (b.0 refl)))
  same_stage merged merged a b = refl

  -- a verdict and number 12 exclude each other
  verdict_or_12 : (v : Verdict) (g : Stage) → RightOf failing passing satisfied room (judged v g) → RightOf failing passing satisfied room oversized → ⊥
  verdict_or_12 v g a b = elim a.1 [ inl e ↦ b.0 (a.0.stage.0 e) | inr k ↦ b.1 k ]

  pub right_unique : (a b : Answer) → RightOf failing passing satisfied room a → RightOf failing passing satisfied room b → a ≡ b
  right_unique (judged v g) (judged w h) a b =
      ap₂ judged (same_verdict v w a.0.verdict b.0.verdict) (same_stage g h a.0.stage b.0.stage)
  right_unique (judged v g) oversized a b = absurd (verdict_or_12 v g a b)
  right_unique oversized (judged v g) a b = absurd (verdict_or_12 v g b a)
  right_unique oversized oversized a b = refl

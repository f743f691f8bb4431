-- The lookup and the verdict on the numbers that a file or a caller writes: asked numbers and starts as combined states.
use mathlib.Core.Path.{◌≡◌, refl, subst, ap, ap₂, ◌∙◌}
use mathlib.Core.Logic.{◌↔◌}
use mathlib.Core.Bool.{Bool, ◌&&◌, ◌||◌}
use mathlib.Core.List.{List, [], ◌∷◌}
use lib.Dec.{T, leb}
use lib.ListN.{get_or}
use native.Mathlib.Nat.{mod-lt, mod-eq_of_lt}
use Prim.Native.Nat.{ℕ, ◌%◌, ◌≤◌, ◌<◌}
use Rattle.meaning.specs.Atoms.{Atom}
use Rattle.meaning.specs.Tests.{All}
use Rattle.meaning.specs.Table.{Table}
use Rattle.meaning.specs.Formula.{Formula}
use Rattle.meaning.specs.Instrument.{Instrument, Accepted, components, table, root_formula}
use Rattle.meaning.specs.Combination.{State, Truth}
use Rattle.meaning.specs.View.{View}
use Rattle.meaning.specs.Seen.{value_of, view_of}
use Rattle.meaning.specs.Classes.{class_number}
use Rattle.meaning.specs.Merged.{merged_sizes, class_numbers}
use Rattle.meaning.specs.Verdict.{Right, judged}
use Rattle.meaning.specs.Reference.Answers.{classes_at, merged_size}
use Rattle.meaning.specs.Reference.Tests.{all_of, any_of}
use Rattle.meaning.specs.Reference.Marks.{pass_b, fail_b}
use Rattle.meaning.specs.Reference.Merged.{lookup_b, merged_b}
use Rattle.meaning.specs.Reference.Verdict.{answer_b, has_pass_b, has_fail_b, verdict_b}
use Rattle.meaning.proofs.Basic.Bounded.{any_same}
use Rattle.meaning.proofs.Basic.Lists.{all_map}
use Rattle.meaning.proofs.Meaning.Index.{index_same}
use Rattle.meaning.proofs.Claims.{lookup_01}
use Rattle.meaning.proofs.Demands.{verdict_right}
use Rattle.meaning.proofs.Marks.Atoms.{view_fit}
use Rattle.answers.specs.Outcomes.{looked_up, verdict_of, Judgement}
use Rattle.answers.specs.Means.{LookupMeans, VerdictMeans}

-- tests that agree on the members of a list
module _ {X : Type 0} where
  any_of_same : (p q : X → Bool) (xs : List X) → All (λ x. p x ≡ q x) xs → any_of p xs ≡ any_of q xs
  any_of_same p q [] h = refl
  any_of_same p q (x ∷ xs) h = ap₂ (λ a b. a || b) h.0 (any_of_same p q xs h.1)

  all_of_same : (p q : X → Bool) (xs : List X) → All (λ x. p x ≡ q x) xs → all_of p xs ≡ all_of q xs
  all_of_same p q [] h = refl
  all_of_same p q (x ∷ xs) h = ap₂ (λ a b. a && b) h.0 (all_of_same p q xs h.1)

  answer_same : (p f r p' f' r' : X → Bool) (m : Bool) (xs : List X) → All (λ x. (p x ≡ p' x) × (f x ≡ f' x) × (r x ≡ r' x)) xs
      → answer_b p f r m xs ≡ answer_b p' f' r' m xs
  answer_same p f r p' f' r' m xs h =
      rw (
        any_of_same f f' xs (all_map (λ x e. e.1) xs h),
        all_of_same p p' xs (all_map (λ x e. e.0) xs h),
        all_of_same r r' xs (all_map (λ x e. e.2) xs h),
      ) refl

module _ (I : Instrument) where
  abbrev n : ℕ
  n = components I

  abbrev S : ℕ → Table
  S = table I

  abbrev κ : ℕ → View Atom
  κ = view_of I

  abbrev ρ : Formula Atom
  ρ = root_formula I

  abbrev cls : ℕ → ℕ → ℕ
  cls = classes_at I

  -- numbers that agree below the components are one state to every question
  module _ (s u : ℕ → ℕ) (e : (i : ℕ) → i < n → s i ≡ u i) where
    pass_same : has_pass_b n S κ ρ s ≡ has_pass_b n S κ ρ u
    pass_same = any_same n (λ i. pass_b (S i) (κ i) ρ (s i)) (λ i. pass_b (S i) (κ i) ρ (u i)) (λ i l. ap (pass_b (S i) (κ i) ρ) (e i l))

    fail_same : has_fail_b n S κ ρ s ≡ has_fail_b n S κ ρ u
    fail_same = any_same n (λ i. fail_b (S i) (κ i) ρ (s i)) (λ i. fail_b (S i) (κ i) ρ (u i)) (λ i l. ap (fail_b (S i) (κ i) ρ) (e i l))

    pub lookup_same : lookup_b n S cls κ (value_of I) I.signals ρ s ≡ lookup_b n S cls κ (value_of I) I.signals ρ u
    lookup_same =
        ap (merged_b n S cls κ (value_of I) I.signals ρ)
        (index_same n (merged_sizes n S cls) (class_numbers n S cls s) (class_numbers n S cls u) (λ i l. ap (class_number (cls i)) (e i l)))

  module _ (accepted : Accepted I) where
    -- the combined state of a list of numbers: each number, or what is left of it by the state count where it is too large
    abbrev state_of : List ℕ → State n S
    state_of l = record { at = λ i. get_or l i 0 % (S i).states; ok = λ i k. mod-lt (get_or l i 0) (accepted.well_formed.some i k) }

    own : (l : List ℕ) → ((i : ℕ) → i < n → get_or l i 0 < (S i).states) → (i : ℕ) → i < n → (state_of l).at i ≡ get_or l i 0
    own l h i k = mod-eq_of_lt (h i k)

    pub lookup_means : (asked : List ℕ) → ((i : ℕ) → i < n → get_or asked i 0 < (S i).states) → LookupMeans asked (looked_up I asked) I
    lookup_means asked h =
        record {
          state = state_of asked;
          is = own asked h;
          truth = subst (λ b. T b ↔ Truth n S (value_of I) ρ (state_of asked)) (lookup_same (state_of asked).at (λ i. get_or asked i 0) (own asked h))
              (lookup_01 I accepted (state_of asked));
        }

    -- the verdict on the starts as they are written is that on their combined states
    written : verdict_b n S κ ρ 4096 I.signals (value_of I) (λ l. (state_of l).at) I.starts ≡ verdict_of I
    written =
        answer_same (λ l. has_pass_b n S κ ρ (state_of l).at) (λ l. has_fail_b n S κ ρ (state_of l).at)
        (λ l. lookup_b n S cls κ (value_of I) I.signals ρ (state_of l).at) (λ l. has_pass_b n S κ ρ (λ i. get_or l i 0))
        (λ l. has_fail_b n S κ ρ (λ i. get_or l i 0)) (λ l. lookup_b n S cls κ (value_of I) I.signals ρ (λ i. get_or l i 0)) (leb (merged_size I) 4096)
        I.starts
        (all_map (λ l h.
        let e = own l h.1 in
        (pass_same (state_of l).at (λ i. get_or l i 0) e, fail_same (state_of l).at (λ i. get_or l i 0) e, lookup_same (state_of l).at (λ i. get_or l i 0) e))
        I.starts accepted.starts)

    pub verdict_means : (j : Judgement) → verdict_of I ≡ judged j.verdict j.stage → VerdictMeans j I
    verdict_means j e =
        record {
          start = state_of;
          is = all_map (λ l h. own l h.1) I.starts accepted.starts;
          right =
              let good = accepted.well_formed in
              subst (Right n S κ ρ (Truth n S (value_of I) ρ) state_of I.starts (merged_size I ≤ 4096)) (written ∙ e)
              (verdict_right n S I.signals good (value_of I) κ (view_fit I accepted) ρ 4096 state_of I.starts);
        }

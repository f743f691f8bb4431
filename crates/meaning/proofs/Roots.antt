-- The equivalence of several roots: related at each. Its classes are named, keep what stands under one of the roots, and for document 01's root
-- alone are document 01's classes.
use mathlib.Core.Path.{◌≡◌, ap, ap₂, fun_ext, refl}
use mathlib.Core.Logic.{inl, inr}
use mathlib.Core.Bool.{Bool, ◌&&◌, ◌||◌, false, true}
use mathlib.Core.List.{List, [], ◌∷◌}
use lib.Dec.{T}
use lib.ListN.{length}
use Prim.Native.Nat.{◌<◌, suc, ℕ}
use Rattle.words.specs.Sets.{built}
use Rattle.meaning.specs.Classes.{ClassNames}
use Rattle.meaning.specs.Formula.{Formula}
use Rattle.meaning.specs.Instrument.{Accepted, Instrument, components, root_formula, root_node, table}
use Rattle.meaning.specs.Merged.{merged_count_of}
use Rattle.meaning.specs.Nodes.{formula_at}
use Rattle.meaning.specs.Reference.Answers.{class_names_of, classes_at, list_below, join_below, merged_size, merged_words}
use Rattle.meaning.specs.Reference.Merged.{lookup_b, merged_b}
use Rattle.meaning.specs.Reference.Nodes.{beneath_b}
use Rattle.meaning.specs.Reference.Relation.{class_name, rel_b, root_class}
use Rattle.meaning.specs.Relation.{InsidePairs, Rel}
use Rattle.meaning.specs.Roots.{RelAll, classes_at_roots, looked_at, rel_all_b, root_alone, root_formulas, roots_class, roots_class_names, roots_size, roots_words}
use Rattle.meaning.specs.Seen.{value_of, view_of}
use Rattle.meaning.specs.Table.{Table}
use Rattle.meaning.specs.Tests.{Any}
use Rattle.meaning.specs.View.{View}
use Rattle.meaning.proofs.Basic.Booleans.{and_in, and_l, and_r}
use Rattle.meaning.proofs.Basic.Decides.{DecidesPairs}
use Rattle.meaning.proofs.Basic.Equivalence.{Equivalence}
use Rattle.meaning.proofs.Classes.Equivalence.{rel_decides, rel_equiv, rel_under}
use Rattle.meaning.proofs.Classes.Names.{names_lowest}
use Rattle.meaning.proofs.File.Formulas.{Under}
use Rattle.meaning.proofs.Marks.Atoms.{view_fit}
use Rattle.meaning.proofs.Marks.Laws.{Lawful}

module _ {A : Type 0} (t : Table) (κ : View A) (law : Lawful t κ) where
  all_refl : (ρs : List (Formula A)) (x : ℕ) → x < t.states → RelAll t κ ρs x x
  all_refl [] x l = tt
  all_refl (ρ ∷ ρs) x l = ((rel_equiv t κ law ρ).refl x l, all_refl ρs x l)

  all_symm : (ρs : List (Formula A)) (x y : ℕ) → x < t.states → y < t.states → RelAll t κ ρs x y → RelAll t κ ρs y x
  all_symm [] x y l k r = tt
  all_symm (ρ ∷ ρs) x y l k r = ((rel_equiv t κ law ρ).symm x y l k r.0, all_symm ρs x y l k r.1)

  all_trans : (ρs : List (Formula A)) (x y z : ℕ) → x < t.states → y < t.states → z < t.states
      → RelAll t κ ρs x y → RelAll t κ ρs y z → RelAll t κ ρs x z
  all_trans [] x y z l k m r s = tt
  all_trans (ρ ∷ ρs) x y z l k m r s = ((rel_equiv t κ law ρ).trans x y z l k m r.0 s.0, all_trans ρs x y z l k m r.1 s.1)

  pub roots_equivalence : (ρs : List (Formula A)) → Equivalence t (RelAll t κ ρs)
  roots_equivalence ρs = record { refl = all_refl ρs; symm = all_symm ρs; trans = all_trans ρs }

  pub roots_decides : (ρs : List (Formula A)) → DecidesPairs t.states (rel_all_b t κ ρs) (RelAll t κ ρs)
  roots_decides ρs = record { sound = sound ρs; whole = whole ρs }
    where
      sound : (ρs : List (Formula A)) (x y : ℕ) → x < t.states → y < t.states → T (rel_all_b t κ ρs x y) → RelAll t κ ρs x y
      sound [] x y l k h = tt
      sound (ρ ∷ ρs) x y l k h = (
        (rel_decides t κ law ρ).sound x y l k (and_l (rel_b t κ ρ x y) (rel_all_b t κ ρs x y) h),
        sound ρs x y l k (and_r (rel_b t κ ρ x y) (rel_all_b t κ ρs x y) h),
      )

      whole : (ρs : List (Formula A)) (x y : ℕ) → x < t.states → y < t.states → RelAll t κ ρs x y → T (rel_all_b t κ ρs x y)
      whole [] x y l k h = tt
      whole (ρ ∷ ρs) x y l k h =
          and_in (rel_b t κ ρ x y) (rel_all_b t κ ρs x y) ((rel_decides t κ law ρ).whole x y l k h.0) (whole ρs x y l k h.1)

  pub roots_names : (ρs : List (Formula A)) → ClassNames t (RelAll t κ ρs) (roots_class t κ ρs)
  roots_names ρs = names_lowest t (RelAll t κ ρs) (roots_equivalence ρs) (rel_all_b t κ ρs) (roots_decides ρs)

  -- what stands under one of the roots is kept by the merging
  pub roots_keep : (ρs : List (Formula A)) (φ : Formula A) → Any (λ ρ. Under φ ρ) ρs → InsidePairs t (RelAll t κ ρs) (Rel t κ φ)
  roots_keep (ρ ∷ ρs) φ (inl u) x y a b r = rel_under t κ u a b r.0
  roots_keep (ρ ∷ ρs) φ (inr u) x y a b r = roots_keep ρs φ u x y a b r.1
  roots_keep [] φ u x y a b r = absurd u

-- ---- document 01's root as a list: nothing changes
and_true : (b : Bool) → (b && true) ≡ b
and_true true = refl
and_true false = refl

or_false : (b : Bool) → (b || false) ≡ b
or_false true = refl
or_false false = refl

pub one_root_lem : {A : Type 0} (t : Table) (κ : View A) (ρ : Formula A) → roots_class t κ (ρ ∷ []) ≡ root_class t κ ρ
one_root_lem t κ ρ = ap (λ e. class_name t e) (fun_ext (λ x. fun_ext (λ y. and_true (rel_b t κ ρ x y))))

module _ (I : Instrument) where
  pub root_classes_lem : classes_at_roots I (root_alone I) ≡ classes_at I
  root_classes_lem = fun_ext (λ i. one_root_lem (table I i) (view_of I i) (root_formula I))

  pub root_entries : roots_class_names I (root_alone I) ≡ class_names_of I
  root_entries = ap (λ c. join_below (components I) (λ i. list_below (table I i).states (c i))) root_classes_lem

  pub root_size : roots_size I (root_alone I) ≡ merged_size I
  root_size = ap (λ c. merged_count_of (components I) (table I) c) root_classes_lem

  -- bit k of a merged word, from whether node k is taken and from the classes
  abbrev bit_by : (ℕ → Bool) → (ℕ → ℕ → ℕ) → ℕ → ℕ → Bool
  bit_by under c x k = under k && merged_b (components I) (table I) c (view_of I) (value_of I) I.signals (formula_at I.nodes k) x

  pub root_words : roots_words I (root_alone I) ≡ merged_words I
  root_words =
      ap₂ (λ under c. list_below (merged_count_of (components I) (table I) c) (λ x. built (length I.nodes) (bit_by under c x)))
      (fun_ext (λ k. or_false (beneath_b I.nodes (suc (root_node I)) k (root_node I)))) root_classes_lem

  pub root_looked : (s : ℕ → ℕ)
      → looked_at I (root_alone I) (root_node I) s ≡ lookup_b (components I) (table I) (classes_at I) (view_of I) (value_of I) I.signals (root_formula I) s
  root_looked s = ap (λ c. lookup_b (components I) (table I) c (view_of I) (value_of I) I.signals (root_formula I) s) root_classes_lem

-- ---- the classes at the roots of an accepted instrument
module _ (I : Instrument) (accepted : Accepted I) (roots : List ℕ) (i : ℕ) (l : i < components I) where
  -- related at every root
  abbrev pub RelatedAt : ℕ → ℕ → Type 0
  RelatedAt = RelAll (table I i) (view_of I i) (root_formulas I roots)

  pub at_equivalence : Equivalence (table I i) RelatedAt
  at_equivalence = roots_equivalence (table I i) (view_of I i) ((view_fit I accepted).lawful i l) (root_formulas I roots)

  pub at_decides : DecidesPairs (table I i).states (rel_all_b (table I i) (view_of I i) (root_formulas I roots)) RelatedAt
  at_decides = roots_decides (table I i) (view_of I i) ((view_fit I accepted).lawful i l) (root_formulas I roots)

  pub at_names : ClassNames (table I i) RelatedAt (classes_at_roots I roots i)
  at_names = roots_names (table I i) (view_of I i) ((view_fit I accepted).lawful i l) (root_formulas I roots)

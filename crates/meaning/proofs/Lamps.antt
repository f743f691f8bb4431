-- Unread lamps (document 02, 3/14): marks stay as they were, and classes and merged states only get fewer. What the merged answers say of the
-- delivered tables is proved of any view that fits (Demands), and so of this one (Claims).
use mathlib.Core.Path.{◌≡◌, ap, subst, sym}
use mathlib.Core.Bool.{Bool, cond, false, true}
use mathlib.Core.List.{List, [], ◌∷◌}
use lib.Dec.{T, eqb, eqb_refl, eqb→eq}
use native.Mathlib.Nat.{mul-le-mul}
use native.Mathlib.Omega.{arith}
use Prim.Native.Nat.{◌+◌, ◌<◌, ◌≤◌, suc, zero, ℕ}
use Rattle.words.specs.Sets.{intersection}
use Rattle.meaning.specs.Atoms.{Atom, on_signal}
use Rattle.meaning.specs.Classes.{ClassNames, class_count_of, classes_below}
use Rattle.meaning.specs.Combination.{count}
use Rattle.meaning.specs.Formula.{Formula, atom}
use Rattle.meaning.specs.Instrument.{Accepted, Instrument, components, table}
use Rattle.meaning.specs.Marks.{Fail, Pass}
use Rattle.meaning.specs.Relation.{InsidePairs, Rel}
use Rattle.meaning.specs.Roots.{RelAll, classes_at_roots, classes_before, root_formulas, roots_size, size_before}
use Rattle.meaning.specs.Seen.{seen, view_of}
use Rattle.meaning.specs.Table.{Table, drives}
use Rattle.meaning.specs.View.{whole_words}
use Rattle.meaning.proofs.Basic.Equivalence.{Equivalence}
use Rattle.meaning.proofs.Classes.Coarser.{coarser}
use Rattle.meaning.proofs.Classes.Equivalence.{rel_under}
use Rattle.meaning.proofs.Classes.Names.{name_related, related_name}
use Rattle.meaning.proofs.File.Formulas.{Under}
use Rattle.meaning.proofs.Marks.Atoms.{atoms_lawful, level_eq}
use Rattle.meaning.proofs.Marks.Compared.{marks_same}
use Rattle.meaning.proofs.Marks.Laws.{Lawful}
use Rattle.meaning.proofs.Roots.{at_equivalence, at_names, roots_equivalence, roots_names}

-- names of a coarser equivalence: a state that names its class there does so in the finer one, which has at least as many classes
module _ (t : Table) (E F : ℕ → ℕ → Type 0) (inside : InsidePairs t E F) (c d : ℕ → ℕ) (fine : ClassNames t E c) (coarse : ClassNames t F d)
    (same : (x : ℕ) → x < t.states → c x ≤ x) where
  names_kept : (x : ℕ) → x < t.states → d x ≡ x → c x ≡ x
  names_kept x l e =
      let a = same x l in
      let b : d x ≤ c x = coarse.lowest x (c x) l (omega arith) (inside x (c x) l (omega arith) (fine.member x l)) in
      omega arith

  fewer_below : (m : ℕ) → m ≤ t.states → classes_below d m ≤ classes_below c m
  fewer_below zero l = omega arith
  fewer_below (suc m) l = go (eqb (d m) m) (eqb (c m) m) (λ h. subst (λ z. T (eqb z m)) (sym (names_kept m l (eqb→eq (d m) m h))) (eqb_refl m)) (fewer_below m (omega arith))
    where
      go : (a b : Bool) → (T a → T b) → classes_below d m ≤ classes_below c m → cond a 1 0 + classes_below d m ≤ cond b 1 0 + classes_below c m
      go true true h q = omega arith
      go true false h q = absurd (h tt)
      go false true h q = omega arith
      go false false h q = omega arith

-- products of fewer are less
count_less : (n : ℕ) (a b : ℕ → ℕ) → ((i : ℕ) → i < n → a i ≤ b i) → count n a ≤ count n b
count_less zero a b h = omega arith
count_less (suc n) a b h = mul-le-mul (h 0 (omega arith)) (count_less n (λ i. a (suc i)) (λ i. b (suc i)) (λ i l. h (suc i) (omega arith)))

module _ (I : Instrument) where
  -- what was equal in whole words is equal in what is compared
  less : (i x y : ℕ) → (table I i).out x ≡ (table I i).out y → (view_of I i).compared x ≡ (view_of I i).compared y
  less i x y e = ap (λ w. intersection (seen I i) w) e

  pub marks_kept : (i : ℕ) (φ : Formula Atom)
      → (Pass (table I i) (whole_words (table I i)) φ ≡ Pass (table I i) (view_of I i) φ) × (Fail (table I i) (whole_words (table I i)) φ ≡ Fail (table I i) (view_of I i) φ)
  marks_kept i φ = marks_same (table I i) (whole_words (table I i)) (view_of I i).compared φ

  pub related_still : (i : ℕ) (φ : Formula Atom) → InsidePairs (table I i) (Rel (table I i) (whole_words (table I i)) φ) (Rel (table I i) (view_of I i) φ)
  related_still i φ = coarser (table I i) (whole_words (table I i)) (view_of I i).compared (less i) φ

  -- a signal that a formula names: related states drive it to the same level, whoever reads it
  pub named_kept : (i w : ℕ) (φ : Formula Atom) → Under (atom (on_signal w)) φ → (x y : ℕ) → x < (table I i).states → y < (table I i).states
      → Rel (table I i) (view_of I i) φ x y → drives (table I i) x w ≡ drives (table I i) y w
  named_kept i w φ u x y l k r = level_eq (view_of I i).compared (table I i) w x y (rel_under (table I i) (view_of I i) u l k r)

  module _ (accepted : Accepted I) (roots : List ℕ) where
    abbrev before : ℕ → ℕ → ℕ → Type 0
    before i = RelAll (table I i) (whole_words (table I i)) (root_formulas I roots)

    lawful : (i : ℕ) → i < components I → Lawful (table I i) (whole_words (table I i))
    lawful i l = atoms_lawful (table I i).out (table I i) (accepted.well_formed.total i l)

    all_still : (i : ℕ) (φs : List (Formula Atom))
        → InsidePairs (table I i) (RelAll (table I i) (whole_words (table I i)) φs) (RelAll (table I i) (view_of I i) φs)
    all_still i [] x y l k r = tt
    all_still i (φ ∷ φs) x y l k r = (related_still i φ x y l k r.0, all_still i φs x y l k r.1)

    module _ (i : ℕ) (l : i < components I) where
      names_before : ClassNames (table I i) (before i) (classes_before I roots i)
      names_before = roots_names (table I i) (whole_words (table I i)) (lawful i l) (root_formulas I roots)

      equal_before : Equivalence (table I i) (before i)
      equal_before = roots_equivalence (table I i) (whole_words (table I i)) (lawful i l) (root_formulas I roots)

      -- states that shared a class share one
      pub classes_coarser : (x y : ℕ) → x < (table I i).states → y < (table I i).states → classes_before I roots i x ≡ classes_before I roots i y
          → classes_at_roots I roots i x ≡ classes_at_roots I roots i y
      classes_coarser x y h k e =
          related_name (table I i) _ (at_equivalence I accepted roots i l) _ (at_names I accepted roots i l) x y h k
          (all_still i (root_formulas I roots) x y h k (name_related (table I i) (before i) equal_before _ names_before x y h k e))

      -- a component has at most as many classes as it had
      pub classes_fewer : class_count_of (table I i) (classes_at_roots I roots i) ≤ class_count_of (table I i) (classes_before I roots i)
      classes_fewer =
          fewer_below (table I i) _ _ (all_still i (root_formulas I roots)) _ _ names_before (at_names I accepted roots i l)
          (λ x h. names_before.lowest x x h h (equal_before.refl x h)) (table I i).states (omega arith)

    -- and there are at most as many merged states
    pub merged_fewer : roots_size I roots ≤ size_before I roots
    merged_fewer = count_less (components I) _ _ classes_fewer

-- Demand 3: guarded truth by paths in the merged combination is truth by paths in the full one, at every node that the merging keeps, with
-- no bound on the size of the full combination.
use mathlib.Core.Path.{refl, subst, sym}
use mathlib.Core.Logic.{◌↔◌, ⊎_map}
use mathlib.Core.Bool.{Bool}
use lib.Dec.{T}
use Prim.Native.Nat.{◌<◌, ℕ}
use Rattle.meaning.specs.Classes.{class_number, lowest_of}
use Rattle.meaning.specs.Combination.{State, Step, Truth}
use Rattle.meaning.specs.Formula.{Formula, eg}
use Rattle.meaning.specs.Merged.{MergedOf, MergedTruth, class_numbers, guard, lowest_states, merged_tables}
use Rattle.meaning.specs.Relation.{Rel}
use Rattle.meaning.specs.Table.{Table}
use Rattle.meaning.specs.View.{View}
use Rattle.meaning.proofs.Classes.Equivalence.{rel_part}
use Rattle.meaning.proofs.File.Formulas.{Part}
use Rattle.meaning.proofs.Meaning.Steps.{step_total}
use Rattle.meaning.proofs.Meaning.Transfer.{Matches, transfer}
use Rattle.meaning.proofs.Merged.Marks.{merged_fail, merged_pass}
use Rattle.meaning.proofs.Merged.Match.{Related, match_full, match_merged}
use Rattle.meaning.proofs.Merged.Merging.{Finer, Merging, class_ok, fail_at_lem, finer_follows, finer_part, from_low, low_lt}
use Rattle.meaning.proofs.Merged.Merging.{lowest_state, merged_totals, total, truth_fail, truth_pass, unfail_at}
use Rattle.meaning.proofs.Merged.Numbers.{number_lowest}

module _ {n : ℕ} {S : ℕ → Table} {A : Type 0} {val : A → (ℕ → ℕ) → Bool} {κ : ℕ → View A} {E : ℕ → ℕ → ℕ → Type 0} {cls : ℕ → ℕ → ℕ}
    (m : Merging n S val κ E cls) where
  abbrev M : ℕ → Table
  M = merged_tables n S cls

  -- the two systems, and the relation between their states
  abbrev AtomsM : A → State n M → Type 0
  AtomsM a c = T (val a (lowest_states n S cls c.at))

  abbrev AtomsS : A → State n S → Type 0
  AtomsS a s = T (val a s.at)

  abbrev free : Formula A → State n S → Type 0
  free φ s = Unit {0}

  abbrev Tied : Formula A → State n M → State n S → Type 0
  Tied φ c s = Finer m φ × Related m φ c s

  low_ok : (c : State n M) (i : ℕ) (l : i < n) → lowest_states n S cls c.at i < (S i).states
  low_ok c i l = low_lt m i l (c.at i) (c.ok i l)

  tied_part : (φ ψ : Formula A) → Part φ ψ → (c : State n M) (s : State n S) → Tied ψ c s → Tied φ c s
  tied_part φ ψ p c s r = (finer_part m φ ψ p r.0, λ i l. rel_part (S i) (κ i) p (low_ok c i l) (s.ok i l) (r.1 i l))

  to_full : Matches (Step n M) AtomsM (guard n S cls κ val) (Step n S) AtomsS free Tied
  to_full =
      record {
        value = λ a c s r. subst T (m.fits.related a (lowest_state m c) s r.1);
        guard = λ φ c s r h. tt;
        part = tied_part;
        step =
            λ φ χ f c d s r h z k.
            let u = finer_follows m φ χ f r.0 in
            ⊎_map
            (λ p. truth_pass m φ s p.0 p.1 p.2)
            (λ p. (p.0, p.1, (u, p.2)))
            (match_full m φ χ f r.0 u c d s r.1
            (λ i l g. merged_fail m φ r.0 c i l (unfail_at m φ i l (low_ok c i l) (s.ok i l) (r.1 i l) g) h)
            (λ i l g. merged_fail m χ u d i l g k) z);
      }

  to_merged : Matches (Step n S) AtomsS free (Step n M) AtomsM (guard n S cls κ val) (λ φ s c. Tied φ c s)
  to_merged =
      record {
        value = λ a s c r. subst T (sym (m.fits.related a (lowest_state m c) s r.1));
        guard = λ φ s c r h i l g. truth_fail m (eg φ) s i l (fail_at_lem m (eg φ) i l (low_ok c i l) (s.ok i l) (r.1 i l) g) h;
        part = λ φ ψ p s c r. tied_part φ ψ p c s r;
        step =
            λ φ χ f s d c r h z k.
            let u = finer_follows m φ χ f r.0 in
            ⊎_map
            (λ p. merged_pass m φ r.0 c p.0 p.1 p.2)
            (λ p. (p.0, p.1, (u, p.2)))
            (match_merged m φ χ f r.0 u c s d r.1
            (λ i l g. truth_fail m φ s i l (fail_at_lem m φ i l (low_ok c i l) (s.ok i l) (r.1 i l) g) h)
            (λ i l g. truth_fail m χ d i l g k) z);
      }

  -- at states that are related part by part
  related_truth : (φ : Formula A) → Finer m φ → (c : State n M) (s : State n S) → Related m φ c s
      → MergedTruth n S cls κ val φ c ↔ Truth n S val φ s
  related_truth φ u c s r =
      transfer (Step n M) AtomsM (guard n S cls κ val) (Step n S) AtomsS free Tied (step_total n M (merged_totals m))
      (step_total n S (total m)) to_full to_merged φ c s (u, r)

  -- at the merged state of a combined state
  pub merged_truth : (φ : Formula A) → Finer m φ → (s : State n S) (c : State n M) → MergedOf n S cls s c
      → MergedTruth n S cls κ val φ c ↔ Truth n S val φ s
  merged_truth φ u s c h =
      related_truth φ u c s (λ i l.
      subst (λ j. Rel (S i) (κ i) φ (lowest_of (S i) (cls i) j) (s.at i)) (sym (h i l))
      (u i l (lowest_of (S i) (cls i) (class_number (cls i) (s.at i))) (s.at i)
      (low_lt m i l (class_number (cls i) (s.at i)) (class_ok m i l (s.at i) (s.ok i l))) (s.ok i l) (from_low m i l (s.at i) (s.ok i l))))

  -- every combined state has a merged state, and every merged state is that of a combined state
  abbrev pub merged_state : State n S → State n M
  merged_state s = record { at = class_numbers n S cls s.at; ok = λ i l. class_ok m i l (s.at i) (s.ok i l) }

  pub merged_of_lem : (s : State n S) → (c : State n M) × MergedOf n S cls s c
  merged_of_lem s = (merged_state s, λ i l. refl)

  pub of_merged : (c : State n M) → (s : State n S) × MergedOf n S cls s c
  of_merged c = (lowest_state m c, λ i l. sym (number_lowest (cls i) (S i) (c.at i) (c.ok i l)))

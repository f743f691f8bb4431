-- Demands 2 and 3 for an instrument: over any atoms, and over any equivalences that are merged.
use mathlib.Core.Path.{◌≡◌}
use mathlib.Core.Logic.{◌↔◌}
use mathlib.Core.Bool.{Bool}
use mathlib.Core.List.{List}
use lib.Dec.{T, leb, leb→le, le→leb}
use Prim.Native.Nat.{◌<◌, ◌≤◌, ℕ}
use Rattle.meaning.specs.Classes.{ClassNames}
use Rattle.meaning.specs.Combination.{State, Truth, count, index}
use Rattle.meaning.specs.Formula.{Formula}
use Rattle.meaning.specs.Instrument.{WellFormed}
use Rattle.meaning.specs.Marks.{Fail, Pass}
use Rattle.meaning.specs.Merged.{MergedOf, MergedTruth, merged_count_of, merged_index, merged_sizes, merged_tables}
use Rattle.meaning.specs.Reference.Marks.{fail_b, pass_b}
use Rattle.meaning.specs.Reference.Merged.{lookup_b, merged_b}
use Rattle.meaning.specs.Reference.Relation.{root_class}
use Rattle.meaning.specs.Reference.Truth.{part, truth_b}
use Rattle.meaning.specs.Reference.Verdict.{has_fail_b, has_pass_b, verdict_b}
use Rattle.meaning.specs.Relation.{InsidePairs, Rel}
use Rattle.meaning.specs.Table.{Table}
use Rattle.meaning.specs.Verdict.{HasFail, HasPass, Right}
use Rattle.meaning.specs.View.{View}
use Rattle.meaning.proofs.Basic.Bounded.{any_iff}
use Rattle.meaning.proofs.Basic.Equivalence.{Equivalence}
use Rattle.meaning.proofs.Classes.Described.{Described, described, root_names}
use Rattle.meaning.proofs.Classes.Equivalence.{rel_equiv, rel_under}
use Rattle.meaning.proofs.File.Formulas.{Under}
use Rattle.meaning.proofs.Marks.Laws.{Fits, Local}
use Rattle.meaning.proofs.Marks.Sound.{fail_sound, pass_sound}
use Rattle.meaning.proofs.Meaning.Full.{full_at}
use Rattle.meaning.proofs.Meaning.Index.{index_part, part_lt}
use Rattle.meaning.proofs.Merged.Computed.{lookup_at, merged_at, merged_onto}
use Rattle.meaning.proofs.Merged.Merging.{Merging}
use Rattle.meaning.proofs.Merged.Truth.{merged_of_lem, merged_truth}
use Rattle.meaning.proofs.Verdict.{right}

-- demand 2: the bit computed at the index of a combined state is the truth by paths there; and every number below the count is an index
module _ (n : ℕ) (S : ℕ → Table) (W : ℕ) (good : WellFormed n S W) where
  abbrev sizes : ℕ → ℕ
  sizes i = (S i).states

  pub full_way : {A : Type 0} (val : A → (ℕ → ℕ) → Bool) → Local n val → (φ : Formula A) (s : State n S)
      → T (truth_b n S W val φ (index n sizes s.at)) ↔ Truth n S val φ s
  full_way = full_at n S good.total good.some W good.small

  pub full_onto : (x : ℕ) → x < count n sizes → (s : State n S) × (index n sizes s.at ≡ x)
  full_onto x l =
      (record { at = λ i. part sizes i x; ok = λ i k. part_lt sizes i (good.some i k) x }, index_part n sizes good.some x l)

-- demand 3
module _
    (n : ℕ)
    (S : ℕ → Table)
    (W : ℕ)
    (good : WellFormed n S W)
    {A : Type 0}
    (val : A → (ℕ → ℕ) → Bool)
    (κ : ℕ → View A)
    (fits : Fits n S val κ)
  where
    -- every component's marks, relation and classes are as document 01 describes them
    pub described_inside : (i : ℕ) → i < n → Described (S i) (κ i)
    described_inside i l = described (S i) (κ i) (fits.lawful i l)

    -- marks are right in the instrument, so that no combined state is PASS by one component and FAIL by another
    pub marks_inside : (k : ℕ) → k < n → (φ : Formula A) (s : State n S)
        → (Pass (S k) (κ k) φ (s.at k) → Truth n S val φ s) × (Fail (S k) (κ k) φ (s.at k) → Truth n S val φ s → ⊥)
    marks_inside k l φ s =
        (pass_sound n S good.total val k (κ k) (fits.sound k l) φ s, fail_sound n S good.total val k (κ k) (fits.sound k l) φ s)

    pub no_clash : (φ : Formula A) (s : State n S) (i j : ℕ) → i < n → j < n → Pass (S i) (κ i) φ (s.at i) → Fail (S j) (κ j) φ (s.at j) → ⊥
    no_clash φ s i j l k p f = (marks_inside j k φ s).1 f ((marks_inside i l φ s).0 p)

    -- the classes of any equivalences, one for each component, that have names and keep φ
    module _
        (E : ℕ → ℕ → ℕ → Type 0)
        (equivalence : (i : ℕ) → i < n → Equivalence (S i) (E i))
        (cls : ℕ → ℕ → ℕ)
        (names : (i : ℕ) → i < n → ClassNames (S i) (E i) (cls i))
      where
        abbrev merging : Merging n S val κ E cls
        merging = record { fits = fits; equivalence = equivalence; names = names }

        abbrev pub Keeps : Formula A → Type 0
        Keeps φ = (i : ℕ) → i < n → InsidePairs (S i) (E i) (Rel (S i) (κ i) φ)

        -- guarded truth by paths at the merged state of a combined state is truth by paths there
        pub merged_paths : (φ : Formula A) → Keeps φ → (s : State n S) (c : State n (merged_tables n S cls)) → MergedOf n S cls s c
            → MergedTruth n S cls κ val φ c ↔ Truth n S val φ s
        merged_paths = merged_truth merging

        pub merged_state_lem : (s : State n S) → (c : State n (merged_tables n S cls)) × MergedOf n S cls s c
        merged_state_lem = merged_of_lem merging

        -- the bit computed at the index of a merged state is the guarded truth by paths there, at every node
        pub merged_bits : (φ : Formula A) (c : State n (merged_tables n S cls))
            → T (merged_b n S cls κ val W φ (index n (merged_sizes n S cls) c.at)) ↔ MergedTruth n S cls κ val φ c
        merged_bits = merged_at merging good.some W good.small

        pub merged_index_lem : (x : ℕ) → x < merged_count_of n S cls → (s : State n S) × (merged_index n S cls s.at ≡ x)
        merged_index_lem = merged_onto merging good.some W good.small

        -- the lookup's bit is the truth by paths on the delivered tables
        pub lookup_paths : (φ : Formula A) → Keeps φ → (s : State n S) → T (lookup_b n S cls κ val W φ s.at) ↔ Truth n S val φ s
        lookup_paths = lookup_at merging good.some W good.small

    -- one root: the classes of its relation keep every formula under it
    module _ (ρ : Formula A) where
      abbrev pub root_cls : ℕ → ℕ → ℕ
      root_cls i = root_class (S i) (κ i) ρ

      pub root_equivalence : (i : ℕ) → i < n → Equivalence (S i) (Rel (S i) (κ i) ρ)
      root_equivalence i l = rel_equiv (S i) (κ i) (fits.lawful i l) ρ

      pub root_class_names : (i : ℕ) → i < n → ClassNames (S i) (Rel (S i) (κ i) ρ) (root_cls i)
      root_class_names i l = root_names (S i) (κ i) (fits.lawful i l) ρ

      pub under_kept : (φ : Formula A) → Under φ ρ → (i : ℕ) → i < n → InsidePairs (S i) (Rel (S i) (κ i) ρ) (Rel (S i) (κ i) φ)
      under_kept φ u i l x y a b r = rel_under (S i) (κ i) u a b r

      -- the verdict on starts of any form, read as combined states
      pub verdict_right : (limit : ℕ) {X : Type 0} (f : X → State n S) (ss : List X)
          → Right n S κ ρ (Truth n S val ρ) f ss (merged_count_of n S root_cls ≤ limit) (verdict_b n S κ ρ limit W val (λ x. (f x).at) ss)
      verdict_right limit f =
          right (λ x. HasPass n S κ ρ (f x).at) (λ x. HasFail n S κ ρ (f x).at) (λ x. Truth n S val ρ (f x)) (merged_count_of n S root_cls ≤ limit)
          (λ x. has_pass_b n S κ ρ (f x).at) (λ x. has_fail_b n S κ ρ (f x).at) (λ x. lookup_b n S root_cls κ val W ρ (f x).at)
          (leb (merged_count_of n S root_cls) limit)
          (λ x. any_iff n (λ i. pass_b (S i) (κ i) ρ ((f x).at i)) (λ i. Pass (S i) (κ i) ρ ((f x).at i)) (λ i l. (bit i l).0 (f x)))
          (λ x. any_iff n (λ i. fail_b (S i) (κ i) ρ ((f x).at i)) (λ i. Fail (S i) (κ i) ρ ((f x).at i)) (λ i l. (bit i l).1 (f x)))
          (λ x. lookup_paths (λ i. Rel (S i) (κ i) ρ) root_equivalence root_cls root_class_names ρ (under_kept ρ Under.itself) (f x))
          (leb→le (merged_count_of n S root_cls) limit, le→leb (merged_count_of n S root_cls) limit)
          (λ x h. (marks_inside h.0 h.1 ρ (f x)).0 h.2)
          (λ x h. (marks_inside h.0 h.1 ρ (f x)).1 h.2)
        where
          -- a computed mark of a component's state is the mark
          bit : (i : ℕ) → i < n
              → ((s : State n S) → T (pass_b (S i) (κ i) ρ (s.at i)) ↔ Pass (S i) (κ i) ρ (s.at i))
              × ((s : State n S) → T (fail_b (S i) (κ i) ρ (s.at i)) ↔ Fail (S i) (κ i) ρ (s.at i))
          bit i l =
              let (p, f) = (described_inside i l).marks ρ in (
                λ s. (p.sound (s.at i) (s.ok i l), p.whole (s.at i) (s.ok i l)),
                λ s. (f.sound (s.at i) (s.ok i l), f.whole (s.at i) (s.ok i l)),
              )

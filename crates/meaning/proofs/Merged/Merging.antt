-- An instrument whose states are merged by equivalences E with class names cls; what every proof about it uses of one component.
use mathlib.Core.Bool.{Bool}
use Prim.Native.Nat.{◌<◌, ℕ}
use Rattle.meaning.specs.Classes.{ClassNames, class_number, lowest_of}
use Rattle.meaning.specs.Combination.{State, Truth}
use Rattle.meaning.specs.Formula.{Formula, ex}
use Rattle.meaning.specs.Marks.{Fail, Pass}
use Rattle.meaning.specs.Merged.{lowest_states, merged_tables}
use Rattle.meaning.specs.Relation.{InsidePairs, Rel}
use Rattle.meaning.specs.Table.{Successor, Table, Total}
use Rattle.meaning.specs.View.{View}
use Rattle.meaning.proofs.Basic.Equivalence.{Equivalence}
use Rattle.meaning.proofs.Classes.Equivalence.{fail_back, rel_part, rel_sym, rel_trans}
use Rattle.meaning.proofs.Classes.SameMarks.{fail_same, pass_same}
use Rattle.meaning.proofs.File.Formulas.{Follows, Part, after_eg, after_eu, after_ex, of_ex}
use Rattle.meaning.proofs.Marks.Laws.{Fits}
use Rattle.meaning.proofs.Marks.Sound.{fail_sound, pass_sound}
use Rattle.meaning.proofs.Merged.Numbers.{lowest_lt}
use Rattle.meaning.proofs.Merged.Tables.{class_lt, low_related, merged_in, merged_out, merged_total}

pub record Merging (n : ℕ) (S : ℕ → Table) {A : Type 0} (val : A → (ℕ → ℕ) → Bool) (κ : ℕ → View A) (E : ℕ → ℕ → ℕ → Type 0)
    (cls : ℕ → ℕ → ℕ) : Type 0 where
  pub fits : Fits n S val κ
  pub equivalence : (i : ℕ) → i < n → Equivalence (S i) (E i)
  pub names : (i : ℕ) → i < n → ClassNames (S i) (E i) (cls i)

module _ {n : ℕ} {S : ℕ → Table} {A : Type 0} {val : A → (ℕ → ℕ) → Bool} {κ : ℕ → View A} {E : ℕ → ℕ → ℕ → Type 0} {cls : ℕ → ℕ → ℕ}
    (m : Merging n S val κ E cls) where
  pub total : (i : ℕ) → i < n → Total (S i)
  total i l = (m.fits.lawful i l).total

  pub merged_totals : (i : ℕ) → i < n → Total (merged_tables n S cls i)
  merged_totals i l = merged_total (S i) (E i) (m.equivalence i l) (cls i) (m.names i l) (total i l)

  -- the combined state of the lowest states
  abbrev pub lowest_state : State n (merged_tables n S cls) → State n S
  lowest_state c = record { at = lowest_states n S cls c.at; ok = λ i l. lowest_lt (cls i) (S i) (c.at i) (c.ok i l) }

  -- component k's lowest state in the merged state c
  abbrev pub name : State n (merged_tables n S cls) → ℕ → ℕ
  name c k = lowest_states n S cls c.at k

  pub name_lt : (c : State n (merged_tables n S cls)) (k : ℕ) (l : k < n) → name c k < (S k).states
  name_lt c = (lowest_state c).ok

  -- the merging keeps φ: what it merges is related for φ
  abbrev pub Finer : Formula A → Type 0
  Finer φ = (i : ℕ) → i < n → InsidePairs (S i) (E i) (Rel (S i) (κ i) φ)

  pub finer_part : (φ ψ : Formula A) → Part φ ψ → Finer ψ → Finer φ
  finer_part φ ψ p u i l x y a b r = rel_part (S i) (κ i) p a b (u i l x y a b r)

  pub finer_follows : (φ χ : Formula A) → Follows φ χ → Finer φ → Finer χ
  finer_follows φ χ (after_ex {φ = ψ}) u = finer_part ψ (ex ψ) of_ex u
  finer_follows φ χ after_eg u = u
  finer_follows φ χ after_eu u = u

  -- marks are right in the instrument
  pub truth_pass : (φ : Formula A) (s : State n S) (k : ℕ) → k < n → Pass (S k) (κ k) φ (s.at k) → Truth n S val φ s
  truth_pass φ s k l p = pass_sound n S total val k (κ k) (m.fits.sound k l) φ s p

  pub truth_fail : (φ : Formula A) (s : State n S) (k : ℕ) → k < n → Fail (S k) (κ k) φ (s.at k) → Truth n S val φ s → ⊥
  truth_fail φ s k l p h = fail_sound n S total val k (κ k) (m.fits.sound k l) φ s p h

  -- the laws of component i at a node, the states left to be found
  module _ (φ : Formula A) (i : ℕ) (l : i < n) where
    pub sym_at : {x y : ℕ} → x < (S i).states → y < (S i).states → Rel (S i) (κ i) φ x y → Rel (S i) (κ i) φ y x
    sym_at {x} {y} a b r = rel_sym (S i) (κ i) (m.fits.lawful i l) φ x y a b r

    pub trans_at : {x y z : ℕ} → x < (S i).states → y < (S i).states → z < (S i).states
        → Rel (S i) (κ i) φ x y → Rel (S i) (κ i) φ y z → Rel (S i) (κ i) φ x z
    trans_at {x} {y} {z} a b c r s = rel_trans (S i) (κ i) (m.fits.lawful i l) φ x y z a b c r s

    pub pass_at_lem : {x y : ℕ} → x < (S i).states → y < (S i).states → Rel (S i) (κ i) φ x y → Pass (S i) (κ i) φ x → Pass (S i) (κ i) φ y
    pass_at_lem {x} {y} a b r h = pass_same (S i) (κ i) (m.fits.lawful i l) φ x y a b r h

    pub fail_at_lem : {x y : ℕ} → x < (S i).states → y < (S i).states → Rel (S i) (κ i) φ x y → Fail (S i) (κ i) φ x → Fail (S i) (κ i) φ y
    fail_at_lem {x} {y} a b r h = fail_same (S i) (κ i) (m.fits.lawful i l) φ x y a b r h

    pub unfail_at : {x y : ℕ} → x < (S i).states → y < (S i).states → Rel (S i) (κ i) φ x y → Fail (S i) (κ i) φ y → Fail (S i) (κ i) φ x
    unfail_at {x} {y} a b r h = fail_back (S i) (κ i) (m.fits.lawful i l) φ x y a b r h

  -- its class numbers and merged steps
  module _ (i : ℕ) (l : i < n) where
    -- the lowest state of class k, and the class of x
    abbrev pub low : ℕ → ℕ
    low = lowest_of (S i) (cls i)

    pub low_lt : (k : ℕ) → k < (merged_tables n S cls i).states → low k < (S i).states
    low_lt k b = lowest_lt (cls i) (S i) k b

    pub class_ok : (x : ℕ) → x < (S i).states → class_number (cls i) x < (merged_tables n S cls i).states
    class_ok x b = class_lt (S i) (E i) (m.equivalence i l) (cls i) (m.names i l) x b

    pub to_low : (x : ℕ) → x < (S i).states → E i x (low (class_number (cls i) x))
    to_low x b = low_related (S i) (E i) (m.equivalence i l) (cls i) (m.names i l) x b

    pub from_low : (x : ℕ) → x < (S i).states → E i (low (class_number (cls i) x)) x
    from_low x b = (m.equivalence i l).symm x (low (class_number (cls i) x)) b (low_lt (class_number (cls i) x) (class_ok x b)) (to_low x b)

    pub step_in : (k x a y : ℕ) → k < (merged_tables n S cls i).states → x < (S i).states → E i (low k) x → Successor (S i) x a y
        → Successor (merged_tables n S cls i) k a (class_number (cls i) y)
    step_in = merged_in (S i) (E i) (m.equivalence i l) (cls i) (m.names i l)

    pub step_out : (k a j : ℕ) → k < (merged_tables n S cls i).states → Successor (merged_tables n S cls i) k a j
        → (x : ℕ) × (x < (S i).states) × E i (low k) x × ((y : ℕ) × Successor (S i) x a y × E i y (low j))
    step_out = merged_out (S i) (E i) (m.equivalence i l) (cls i) (m.names i l)

  -- a state and the lowest of its class are related at each node that the merging keeps
  pub low_at : (φ : Formula A) → Finer φ → (i : ℕ) (l : i < n) (x : ℕ) → x < (S i).states → Rel (S i) (κ i) φ x (low i l (class_number (cls i) x))
  low_at φ u i l x b = u i l x (low i l (class_number (cls i) x)) b (low_lt i l (class_number (cls i) x) (class_ok i l x b)) (to_low i l x b)

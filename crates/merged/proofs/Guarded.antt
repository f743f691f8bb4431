-- Truth of all nodes on tables that agree with the merged ones, where the classes are barred that are FAIL of an EG node, is document 01's
-- truth in the merged combination: the guard shuts out just those.
use mathlib.Core.Path.{◌≡◌, refl, sym, subst, ap, ◌∙◌, fun_ext}
use mathlib.Core.Bool.{Bool, true, false, not, ◌&&◌, ◌||◌}
use mathlib.Core.List.{List}
use lib.ListN.{length, get_or-eq_default}
use native.Mathlib.Decide.{dec_lt}
use native.Mathlib.Omega.{arith}
use Prim.Native.Nat.{ℕ, zero, suc, ◌<◌}
use Rattle.words.specs.Sets.{has}
use Rattle.words.proofs.Built.{has_built, built_same}
use Rattle.words.specs.Sets.{built}
use Rattle.meaning.specs.Atoms.{Atom, on_signal}
use Rattle.meaning.specs.Tests.{any_below}
use Rattle.meaning.specs.Table.{Table}
use Rattle.meaning.specs.Nodes.{Node, top, atom, neg, or, ex, eg, eu, Earlier, node_at, formula_at}
use Rattle.meaning.specs.Seen.{value}
use Rattle.meaning.specs.View.{View}
use Rattle.meaning.specs.Classes.{class_count_of, lowest_of}
use Rattle.meaning.specs.Merged.{lowest_states, merged_tables, merged_sizes, merged_count_of}
use Rattle.meaning.specs.Reference.Tests.{all_below}
use Rattle.meaning.specs.Reference.Marks.{fail_b}
use Rattle.meaning.specs.Reference.Truth.{part, guarded_b}
use Rattle.meaning.specs.Reference.Merged.{guard_b, merged_b}
use Rattle.meaning.proofs.Basic.Bounded.{any_same}
use Rattle.meaning.proofs.Meaning.Index.{part_lt}
use Rattle.labels.specs.Combined.{barred_at}
use Rattle.node_truth.specs.Nodes.{combined_b, combined_word}
use Rattle.node_truth.proofs.Nodes.{combined_guarded}
use Rattle.merging.proofs.Tables.{Agreeing}
use Rattle.merged.specs.Bars.{fail_classes}
use Rattle.merged.proofs.Agreeing.{combined_same}

-- none passes a test if all fail it
none_all : (n : ℕ) (f : ℕ → Bool) → all_below n (λ i. not (f i)) ≡ not (any_below n f)
none_all zero f = refl
none_all (suc n) f = go (f n) (none_all n f)
  where
    go : (b : Bool) → all_below n (λ i. not (f i)) ≡ not (any_below n f) → (not b && all_below n (λ i. not (f i))) ≡ not (b || any_below n f)
    go true h = refl
    go false h = h

pub has_fail_classes : (t : Table) (κ : View Atom) (cls : ℕ → ℕ) (nodes : List (Node Atom)) (k c : ℕ) → c < class_count_of t cls
    → has (fail_classes t κ cls (formula_at nodes k)) c ≡ fail_b t κ (formula_at nodes k) (lowest_of t cls c)
unfolding fail_classes
has_fail_classes t κ cls nodes k c l = has_built (class_count_of t cls) (λ c. fail_b t κ (formula_at nodes k) (lowest_of t cls c)) c l

-- an EG node is one of the listed nodes
eg_listed : (nodes : List (Node Atom)) (k i : ℕ) → node_at nodes k ≡ eg i → k < length nodes
eg_listed nodes k i e =
    elim (dec_lt k (length nodes)) [
      | yes l ↦ l
      | no l ↦ absurd (subst IsTop (sym (get_or-eq_default nodes top {n = k} (omega arith)) ∙ e) tt)
    ]
  where
    IsTop : Node Atom → Type 0
    IsTop top = Unit {0}
    IsTop (atom w) = ⊥
    IsTop (neg i) = ⊥
    IsTop (or i j) = ⊥
    IsTop (ex i) = ⊥
    IsTop (eg i) = ⊥
    IsTop (eu i j) = ⊥

module _ (n : ℕ) (S : ℕ → Table) (κ : ℕ → View Atom) (cls : ℕ → ℕ → ℕ) (some : (i : ℕ) → i < n → 0 < class_count_of (S i) (cls i)) where
  abbrev M : ℕ → Table
  M = merged_tables n S cls

  abbrev r : ℕ → ℕ
  r = merged_sizes n S cls

  -- an atom is worth in a merged state what it is worth in the lowest states of its classes
  value_merged : (a : Atom) (c : ℕ → ℕ) → value n M a c ≡ value n S a (lowest_states n S cls c)
  value_merged (on_signal w) c = refl

  module _
      (nodes : List (Node Atom))
      (barred : ℕ → ℕ → ℕ)
      (bars : (i k : ℕ) → i < n → k < length nodes → barred i k ≡ fail_classes (S i) (κ i) (cls i) (formula_at nodes k))
    where
      -- the guard of a node is that no class is barred there
      pub guard_barred : (k x : ℕ) → k < length nodes
          → guard_b n S cls κ (value n S) (formula_at nodes k) x ≡ not (barred_at n r barred k x)
      guard_barred k x l =
          none_all n (λ i. fail_b (S i) (κ i) (formula_at nodes k) (lowest_of (S i) (cls i) (part r i x)))
          ∙ ap not (any_same n (λ i. fail_b (S i) (κ i) (formula_at nodes k) (lowest_of (S i) (cls i) (part r i x)))
          (λ i. has (barred i k) (part r i x)) (λ i h.
          sym (ap (λ w. has w (part r i x)) (bars i k h l)
          ∙ has_fail_classes (S i) (κ i) (cls i) nodes k (part r i x) (part_lt r i (some i h) x))))

      module _ (earlier : Earlier nodes) (W : ℕ) (U : ℕ → Table) (agreeing : (i : ℕ) → i < n → Agreeing (U i) (M i)) where
        pub combined_merged : (k x : ℕ) → x < merged_count_of n S cls
            → combined_b n U W barred nodes k x ≡ merged_b n S cls κ (value n S) W (formula_at nodes k) x
        combined_merged k x l =
            combined_same n U M agreeing some W barred nodes k x l
            ∙ combined_guarded n M W barred nodes earlier (guard_b n S cls κ (value n S))
            (λ k i e x. guard_barred k x (eg_listed nodes k i e)) k x
            ∙ ap (λ val. guarded_b n M W val (guard_b n S cls κ (value n S)) (formula_at nodes k) x) (fun_ext (λ a. fun_ext (λ c. value_merged a c)))

        pub word_merged_lem : (x : ℕ) → x < merged_count_of n S cls
            → combined_word n U W barred nodes x ≡ built (length nodes) (λ k. merged_b n S cls κ (value n S) W (formula_at nodes k) x)
        word_merged_lem x l =
            built_same (length nodes) (λ k. combined_b n U W barred nodes k x) (λ k. merged_b n S cls κ (value n S) W (formula_at nodes k) x)
            (λ k h. combined_merged k x l)

-- What the guard and the promise of no dead end are for.
use mathlib.Core.Path.{◌∙◌, ◌≡◌, ap, refl, subst, sym}
use mathlib.Core.Bool.{not, true}
use mathlib.Core.List.{[], ◌∷◌}
use lib.Dec.{T, T_not, lit<}
use native.Mathlib.Omega.{arith}
use Prim.Native.Nat.{◌<◌, suc, zero, ℕ}
use Rattle.words.specs.Sets.{built, digit}
use Rattle.meaning.specs.Atoms.{Atom, on_signal}
use Rattle.meaning.specs.Combination.{State, Step, Truth, index}
use Rattle.meaning.specs.Formula.{Formula, ex, top}
use Rattle.meaning.specs.Instrument.{Accepted, Instrument, components, root_formula, table}
use Rattle.meaning.specs.Merged.{merged_tables}
use Rattle.meaning.specs.Nodes.{atom, eg}
use Rattle.meaning.specs.Reference.Truth.{truth_b}
use Rattle.meaning.specs.Reference.Verdict.{root_classes}
use Rattle.meaning.specs.Seen.{value, value_of, view_of}
use Rattle.meaning.specs.Table.{Table, Total, from_words}
use Rattle.meaning.specs.Tests.{listed}
use Rattle.meaning.specs.View.{View}
use Rattle.meaning.proofs.Basic.Bounded.{all_out}
use Rattle.meaning.proofs.Demands.{full_way}
use Rattle.meaning.proofs.File.Promise.{accepted_sound, total_sound}
use Rattle.meaning.proofs.Marks.Atoms.{value_at, value_local}
use Rattle.meaning.proofs.Meaning.Full.{full_at}
use Rattle.meaning.proofs.Meaning.Index.{index_lt, index_same}

-- the chain of document 01 with EG p
abbrev chain_instrument : Instrument
chain_instrument =
    record {
      signals = 1;
      tables = from_words 3 [] (0 ∷ []) (1 ∷ 1 ∷ 0 ∷ []) (2 ∷ 4 ∷ 4 ∷ []) ∷ [];
      nodes = atom (on_signal 0) ∷ eg 0 ∷ [];
      starts = [];
      sets = [];
    }

abbrev n : ℕ
n = components chain_instrument

abbrev S : ℕ → Table
S = table chain_instrument

abbrev κ : ℕ → View Atom
κ = view_of chain_instrument

abbrev ρ : Formula Atom
ρ = root_formula chain_instrument

-- the chain's merged tables for EG p, with classes {0, 1} and {2}
abbrev M : ℕ → Table
M = merged_tables n S (root_classes n S κ ρ)

total_below : (i : ℕ) → i < n → Total (M i)
unfolding digit built
total_below zero l = total_sound (M 0) tt
total_below (suc i) l = absurd (omega arith)

some_below : (i : ℕ) → i < n → 0 < (M i).states
unfolding digit built
some_below zero l = lit< tt
some_below (suc i) l = absurd (omega arith)

small_below : (i : ℕ) → i < n → (w : ℕ) → T (listed (M i).inputs w) → w < 1
small_below zero l w h = absurd h
small_below (suc i) l w h = absurd (omega arith)

computed : truth_b n M 1 (value n M) ρ 0 ≡ true
unfolding digit built
computed = refl

-- without the guard the chain's first class would get EG p: its two members merge into a loop
pub unguarded : (c : State n M) → c.at 0 ≡ 0 → Truth n M (value n M) ρ c
unfolding digit
unguarded c e = (full_at n M total_below some_below 1 small_below (value n M) (value_at n M) ρ c).0 (subst T (sym there) tt)
  where
    there : truth_b n M 1 (value n M) ρ (index n (λ i. (M i).states) c.at) ≡ true
    there =
        let z : index n (λ i. (M i).states) c.at ≡ 0 = index_same n (λ i. (M i).states) c.at (λ i. 0) zeros in
        ap (truth_b n M 1 (value n M) ρ) z ∙ computed
      where
        zeros : (i : ℕ) → i < n → c.at i ≡ 0
        zeros zero l = e
        zeros (suc i) l = absurd (omega arith)

-- and EG p is true in no state of the chain, for every state is FAIL
pub guarded : (s : State n S) → Truth n S (value_of chain_instrument) ρ s → ⊥
unfolding digit built
guarded s h = T_not (truth_b n S 1 (value_of chain_instrument) ρ x) (all_out 3 (λ x. not (truth_b n S 1 (value_of chain_instrument) ρ x)) tt x (index_lt n sizes s.at s.ok)) bit
  where
    sizes : ℕ → ℕ
    sizes i = (S i).states

    x : ℕ
    x = index n sizes s.at

    accepted : Accepted chain_instrument
    accepted = accepted_sound chain_instrument tt

    bit : T (truth_b n S 1 (value_of chain_instrument) ρ x)
    bit = (full_way n S 1 accepted.well_formed (value_of chain_instrument) (value_local chain_instrument) ρ s).1 h

-- 0 goes to 1, and 1 nowhere
abbrev stuck : ℕ → Table
stuck i = from_words 2 [] [] (0 ∷ 0 ∷ []) (2 ∷ 0 ∷ [])

only : (x y : ℕ) → x < 2 → y < 2 → T ((stuck 0).next x 0 y) → (x ≡ 0) × (y ≡ 1)
unfolding digit
only zero zero l k h = absurd h
only zero (suc zero) l k h = (refl, refl)
only (suc zero) zero l k h = absurd h
only (suc zero) (suc zero) l k h = absurd h
only zero (suc (suc y)) l k h = absurd (omega arith)
only (suc zero) (suc (suc y)) l k h = absurd (omega arith)
only (suc (suc x)) y l k h = absurd (omega arith)

-- with a dead end EX true would be computed in state 0, and no path starts there
pub dead_end : (truth_b 1 stuck 0 (value 1 stuck) (ex top) 0 ≡ true) × ((s : State 1 stuck) → Truth 1 stuck (value 1 stuck) (ex top) s → ⊥)
unfolding digit built
dead_end = (
  computed_stuck,
  λ s h.
      let a = step (h.path 0) (h.path 1) (h.run 0) in
      let b = step (h.path 1) (h.path 2) (h.run 1) in
      omega arith,
)
  where
    computed_stuck : truth_b 1 stuck 0 (value 1 stuck) (ex top) 0 ≡ true
    computed_stuck = refl

    step : (s u : State 1 stuck) → Step 1 stuck s u → (s.at 0 ≡ 0) × (u.at 0 ≡ 1)
    step s u m = only (s.at 0) (u.at 0) (s.ok 0 (omega arith)) (u.ok 0 (omega arith)) (m.1 0 (omega arith)).1

-- No theorem speaks of nothing: what the public theorems assume is met by the pair and the chain of document 01, read from their bytes, and by a
-- partner that no file could hold. Premises that exclude each other, as in no_clash and never_clashes, and excluded middle in
-- each_classical are not among them.
use mathlib.Core.Path.{refl}
use mathlib.Core.Logic.{◌≢◌, inl}
use mathlib.Core.Bool.{not}
use mathlib.Core.List.{List, [], ◌∷◌}
use lib.Dec.{T_not, eqb, eqb_refl, lit<, lit≤}
use lib.ListN.{get_or}
use native.Mathlib.Nat.{mod-lt}
use native.Mathlib.Omega.{arith}
use Prim.Native.Nat.{◌%◌, ◌+◌, ◌<◌, ◌≤◌, suc, zero, ℕ}
use Rattle.words.specs.Sets.{built, digit, intersection}
use Rattle.meaning.specs.Atoms.{Atom, on_signal}
use Rattle.meaning.specs.Classes.{ClassNames}
use Rattle.meaning.specs.Combination.{State, Truth}
use Rattle.meaning.specs.File.Grammar.{limits}
use Rattle.meaning.specs.File.Promise.{component_at}
use Rattle.meaning.specs.Formula.{Formula}
use Rattle.meaning.specs.Instrument.{IsStart, Partner, WellFormed, root_formula, root_node, table}
use Rattle.meaning.specs.Marks.{Fail, Move, Pass}
use Rattle.meaning.specs.Merged.{MergedOf, merged_count_of, merged_tables}
use Rattle.meaning.specs.Nodes.{Beneath, Earlier, formula_at, of_eg, through}
use Rattle.meaning.specs.Paths.{IsPath}
use Rattle.meaning.specs.Reference.Verdict.{root_classes}
use Rattle.meaning.specs.Relation.{Rel}
use Rattle.meaning.specs.Seen.{value, value_of, view_of}
use Rattle.meaning.specs.StepWords.{Steps}
use Rattle.meaning.specs.Table.{Table, Total, owns}
use Rattle.meaning.specs.Verdict.{Right, holds, judged, merged}
use Rattle.meaning.specs.View.{View}
use Rattle.meaning.proofs.Basic.Lists.{all_listed}
use Rattle.meaning.proofs.Basic.Equivalence.{Equivalence}
use Rattle.meaning.proofs.Claims.{Words, described_01, full_01, merged_state_01, verdict_01}
use Rattle.meaning.proofs.Demands.{Keeps, root_class_names, root_equivalence, under_kept}
use Rattle.meaning.proofs.File.Accepted.{promised_at, word_at}
use Rattle.meaning.proofs.File.Examples.{accepted_met, chain_accepted, chain_i, pair_contents, pair_i, promised_met}
use Rattle.meaning.proofs.File.Formulas.{Under}
use Rattle.meaning.proofs.File.Nodes.{beneath_under}
use Rattle.meaning.proofs.Marks.Laws.{Fits, Lawful, Local, Shows, Sound}
use Rattle.meaning.proofs.Marks.Partners.{computed_beside, other_partners}
use Rattle.meaning.proofs.Marks.Atoms.{view_fit}

abbrev pub S : ℕ → Table
S = table pair_i

-- ---- what is assumed of a file: Promised and Accepted are met in File/Examples
pub well_formed_met : WellFormed 2 S 2
well_formed_met = accepted_met.well_formed

pub total_met : Total (S 0) × Total (S 1)
total_met = (well_formed_met.total 0 (lit< tt), well_formed_met.total 1 (lit< tt))

pub earlier_met : Earlier pair_i.nodes
earlier_met = accepted_met.earlier

pub start_met : IsStart pair_i (0 ∷ 0 ∷ [])
start_met = accepted_met.starts.0

-- a node under another one
pub beneath_met : Beneath pair_i.nodes 0 (root_node pair_i)
beneath_met = through of_eg Beneath.itself

-- the words of a component, as engines are lent them
pub steps_met : Steps 2 1 (2 ∷ 1 ∷ 2 ∷ 2 ∷ [])
steps_met =
    let q = promised_at limits pair_contents promised_met 0 (lit< tt) in
    let word = word_at limits pair_contents promised_met (component_at pair_contents 0) q in
    record {
      some = lit< tt;
      most_states_lem = q.states.1;
      most_inputs = q.input_count;
      room = lit≤ tt;
      filled = λ x a l k. (word x a l k).1;
      narrow = λ x a l k. (word x a l k).0;
    }

-- ---- combined states
abbrev pub at : List ℕ → ℕ → ℕ
at s i = get_or s i 0

-- the first component in state 1, the other in state 0
pub state_met : State 2 S
state_met = record { at = at (1 ∷ 0 ∷ []); ok = ok }
  where
    ok : (i : ℕ) → i < 2 → at (1 ∷ 0 ∷ []) i < (S i).states
    ok zero l = lit< tt
    ok (suc zero) l = lit< tt
    ok (suc (suc i)) l = absurd (omega arith)

-- and as a start writes it
abbrev pub start_state_lem : (start : List ℕ) → IsStart pair_i start → State 2 S
start_state_lem start h = record { at = at start; ok = h.1 }

abbrev κ : ℕ → View Atom
κ = view_of pair_i

abbrev ρ : Formula Atom
ρ = root_formula pair_i

abbrev cls : ℕ → ℕ → ℕ
cls = root_classes 2 S κ ρ

pub fits_met : Fits 2 S (value_of pair_i) κ
fits_met = view_fit pair_i accepted_met

pub lawful_met : Lawful (S 0) (κ 0)
lawful_met = fits_met.lawful 0 (lit< tt)

pub sound_met : Sound 2 S (value_of pair_i) 0 (κ 0)
sound_met = fits_met.sound 0 (lit< tt)

pub local_met : Local 2 (value_of pair_i)
local_met = fits_met.local

pub shows_met : Shows 2 S 0 (κ 0)
shows_met = fits_met.shows 0 (lit< tt)

pub equivalence_met : (i : ℕ) → i < 2 → Equivalence (S i) (Rel (S i) (κ i) ρ)
equivalence_met = root_equivalence 2 S 2 well_formed_met (value_of pair_i) κ fits_met ρ

pub names_met : (i : ℕ) → i < 2 → ClassNames (S i) (Rel (S i) (κ i) ρ) (cls i)
names_met = root_class_names 2 S 2 well_formed_met (value_of pair_i) κ fits_met ρ

pub under_met : Under (formula_at pair_i.nodes 0) ρ
under_met = beneath_under pair_i.nodes earlier_met 0 (root_node pair_i) beneath_met

pub keeps_met : Keeps 2 S 2 well_formed_met (value_of pair_i) κ fits_met (λ i. Rel (S i) (κ i) ρ) equivalence_met cls names_met
    (formula_at pair_i.nodes 0)
keeps_met = under_kept 2 S 2 well_formed_met (value_of pair_i) κ fits_met ρ (formula_at pair_i.nodes 0) under_met

pub merged_of_met : (c : State 2 (merged_tables 2 S cls)) × MergedOf 2 S cls state_met c
merged_of_met = merged_state_01 pair_i accepted_met state_met

-- ---- marks and truth: EG p is true at the pair's start, and EX p is PASS in state 0 of the chain and FAIL in state 1
pub truth_met : Truth 2 S (value_of pair_i) ρ (start_state_lem (0 ∷ 0 ∷ []) start_met)
unfolding digit built
truth_met = (full_01 pair_i accepted_met 1 (start_state_lem (0 ∷ 0 ∷ []) start_met)).0 tt

abbrev pub chain : Table
chain = table chain_i 0

pub pass_met : Pass chain (view_of chain_i 0) (root_formula chain_i) 0
unfolding digit built
pass_met = ((described_01 chain_i chain_accepted 0 (lit< tt)).marks (root_formula chain_i)).0.sound 0 (lit< tt) tt

pub fail_met : Fail chain (view_of chain_i 0) (root_formula chain_i) 1
unfolding digit built
fail_met = ((described_01 chain_i chain_accepted 0 (lit< tt)).marks (root_formula chain_i)).1.sound 1 (lit< tt) tt

chain_total : Total chain
chain_total = chain_accepted.well_formed.total 0 (lit< tt)

-- a path of the chain that stays in state 2, where p is low
pub path_met : IsPath (Move chain) (λ i. 2)
unfolding digit
path_met i = (0, lit< tt, (lit< tt, tt))

pub words_met : Words (Fail chain (view_of chain_i 0) (Formula.atom (on_signal 0))) (Fail chain (view_of chain_i 0) (Formula.atom (on_signal 0))) (λ i. 2)
unfolding digit
words_met = inl (λ i. tt)

-- a right answer
pub right_met : Right 2 S κ ρ (Truth 2 S (value_of pair_i) ρ) (λ s. s) (start_state_lem (0 ∷ 0 ∷ []) start_met ∷ []) (merged_count_of 2 S cls ≤ 4096)
    (judged holds merged)
unfolding digit built intersection
right_met = verdict_01 pair_i accepted_met (start_state_lem (0 ∷ 0 ∷ []) start_met ∷ [])

-- ---- partners: each component of the pair is one of the other's
pub partner_met : Partner (S 0) (S 1) × Partner (S 1) (S 0)
partner_met = (
  other_partners pair_i accepted_met 0 1 (lit< tt) (lit< tt) (λ e. omega (arith, e)),
  other_partners pair_i accepted_met 1 0 (lit< tt) (lit< tt) (λ e. omega (arith, e)),
)

-- a foreign one, a ring of 100 states, more than any file's component has: it reads the chain's signal 0 and drives signal 1
abbrev pub foreign : Table
foreign =
    record { states = 100; inputs = 0 ∷ []; outputs = 1 ∷ []; out = λ x. x % 2; next = λ x a y. eqb ((x + 1 + a) % 100) y }

pub foreign_partner : Partner chain foreign
foreign_partner =
    record {
      some = lit< tt;
      total = λ x a l k. ((x + 1 + a) % 100, (mod-lt (x + 1 + a) (lit< tt), eqb_refl ((x + 1 + a) % 100)));
      apart = λ w o q. T_not (owns foreign w) (all_listed (λ w. not (owns foreign w)) (0 ∷ []) tt w o) q;
    }

-- the chain beside it, as the second of two
abbrev pub bench : ℕ → Table
bench i = get_or (foreign ∷ chain ∷ []) i chain

pub bench_partners : (l : ℕ) → l < 2 → l ≢ 1 → Partner chain (bench l)
bench_partners zero k z = foreign_partner
bench_partners (suc zero) k z = absurd (z refl)
bench_partners (suc (suc l)) k z = absurd (omega arith)

-- the foreign one in state 99, the chain in state x
pub bench_ok : (x : ℕ) → x < 3 → (i : ℕ) → i < 2 → at (99 ∷ x ∷ []) i < (bench i).states
bench_ok x l zero k = lit< tt
bench_ok x l (suc zero) k = l
bench_ok x l (suc (suc i)) k = absurd (omega arith)

abbrev pub bench_state : (x : ℕ) → x < 3 → State 2 bench
bench_state x l = record { at = at (99 ∷ x ∷ []); ok = bench_ok x l }

-- so EX p is true beside it where the chain is in state 0, and false where that is in state 1
pub bench_true : Truth 2 bench (value 2 bench) (root_formula chain_i) (bench_state 0 (lit< tt))
unfolding digit built
bench_true = (computed_beside 2 bench 1 (lit< tt) chain_total bench_partners chain.out (root_formula chain_i) (bench_state 0 (lit< tt))).0 tt

pub bench_false : Truth 2 bench (value 2 bench) (root_formula chain_i) (bench_state 1 (lit< tt)) → ⊥
unfolding digit built
bench_false = (computed_beside 2 bench 1 (lit< tt) chain_total bench_partners chain.out (root_formula chain_i) (bench_state 1 (lit< tt))).1 tt

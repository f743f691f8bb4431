-- 12/14: the short and the full way agree on every file that is good under any limits, so at every width of numbers and of sets of states.
use mathlib.Core.Path.{◌≡◌}
use mathlib.Core.Logic.{◌↔◌}
use mathlib.Core.List.{List}
use lib.Dec.{T}
use Prim.Native.Nat.{ℕ}
use Rattle.meaning.specs.Atoms.{Atom}
use Rattle.meaning.specs.Combination.{State, Truth, index}
use Rattle.meaning.specs.File.Grammar.{Contents, Limits, filled, instrument_of, whole}
use Rattle.meaning.specs.File.Parser.{found}
use Rattle.meaning.specs.Formula.{Formula}
use Rattle.meaning.specs.Instrument.{Accepted, Instrument, components, root_formula, root_node, table}
use Rattle.meaning.specs.Merged.{MergedOf, merged_sizes, merged_tables}
use Rattle.meaning.specs.Nodes.{Beneath, formula_at}
use Rattle.meaning.specs.Reference.Answers.{classes_at}
use Rattle.meaning.specs.Reference.Merged.{lookup_b, merged_b}
use Rattle.meaning.specs.Reference.Truth.{truth_b}
use Rattle.meaning.specs.Table.{Table}
use Rattle.meaning.specs.View.{View}
use Rattle.meaning.specs.Seen.{value_of, view_of}
use Rattle.meaning.proofs.Claims.{full_01, lookup_01, merged_01, merged_bits_01}
use Rattle.meaning.proofs.File.Accepted.{accepted}
use Rattle.meaning.proofs.File.Parsers.{reads_found}
use Rattle.meaning.proofs.File.Reads.{reads_whole}

module _ (L : Limits) (file : List ℕ) (c : Contents) (e : ℕ) (q : whole L filled file 0 ≡ found c e) where
  abbrev I : Instrument
  I = instrument_of c

  abbrev n : ℕ
  n = components I

  abbrev S : ℕ → Table
  S = table I

  abbrev κ : ℕ → View Atom
  κ = view_of I

  -- the full way's bit of a formula in a combined state
  abbrev full : Formula Atom → State n S → Type 0
  full φ s = T (truth_b n S I.signals (value_of I) φ (index n (λ i. (S i).states) s.at))

  pub good_any : Accepted I
  good_any = accepted L c (reads_found (reads_whole L) file 0 c e q).0

  -- the full way's bit is the truth by infinite paths
  pub full_any : (k : ℕ) (s : State n S) → full (formula_at I.nodes k) s ↔ Truth n S (value_of I) (formula_at I.nodes k) s
  full_any k s = full_01 I good_any k s

  -- the lookup's answer is the full way's bit of the root
  pub agree_any : (s : State n S) → T (lookup_b n S (classes_at I) κ (value_of I) I.signals (root_formula I) s.at) ↔ full (root_formula I) s
  agree_any s =
      let a = lookup_01 I good_any s in
      let b = full_any (root_node I) s in
      (λ h. b.1 (a.0 h), λ h. a.1 (b.0 h))

  -- the merged bit of the root, and of every node under it, is the full way's in each combined state that the merged state stands for
  pub merged_any : (k : ℕ) → Beneath I.nodes k (root_node I) → (s : State n S) (m : State n (merged_tables n S (classes_at I)))
      → MergedOf n S (classes_at I) s m
      → T (merged_b n S (classes_at I) κ (value_of I) I.signals (formula_at I.nodes k) (index n (merged_sizes n S (classes_at I)) m.at))
      ↔ full (formula_at I.nodes k) s
  merged_any k b s m o =
      let g = merged_bits_01 I good_any k m in
      let p = merged_01 I good_any k b s m o in
      let f = full_any k s in
      (λ h. f.1 (p.0 (g.0 h)), λ h. g.1 (p.1 (f.0 h)))

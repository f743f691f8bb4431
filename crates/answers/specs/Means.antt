-- What the entries of an accepted answer mean, by paths on the delivered tables (demands 2 and 3).
use Rattle.std.specs.Prelude.{◌≡◌, Bool, ◌↔◌, ◌≢◌, List, [], ◌++◌, T, length, get_or, take, ℕ, zero, suc, ◌+◌, ◌*◌, ◌≤◌, ◌<◌}
use Rattle.words.specs.Sets.{has}
use Rattle.meaning.specs.Atoms.{Atom}
use Rattle.meaning.specs.Tests.{All}
use Rattle.meaning.specs.Table.{Table}
use Rattle.meaning.specs.Formula.{Formula}
use Rattle.meaning.specs.Nodes.{formula_at, Beneath}
use Rattle.meaning.specs.Instrument.{Instrument, components, table, root_node, root_formula, Partner}
use Rattle.meaning.specs.Combination.{State, Truth, index}
use Rattle.meaning.specs.View.{View}
use Rattle.meaning.specs.Seen.{value, value_of, view_of}
use Rattle.meaning.specs.Marks.{Pass, Fail}
use Rattle.meaning.specs.Relation.{Rel}
use Rattle.meaning.specs.Classes.{ClassNames}
use Rattle.meaning.specs.Merged.{merged_index}
use Rattle.meaning.specs.Verdict.{Right, judged}
use Rattle.meaning.specs.File.Parser.{found}
use Rattle.meaning.specs.File.Grammar.{Contents, instrument_of, limits, component, filled, driven_by, read_file}
use Rattle.meaning.specs.File.Promise.{component_at}
use Rattle.meaning.specs.Reference.Answers.{classes_at, merged_size}
use Rattle.answers.specs.Outcomes.{Judgement}

-- what P says of the instrument of a file, which is accepted
pub record Holds (P : Instrument → Type 0) (file : List ℕ) : Type 0 where
  pub contents : Contents
  pub end : ℕ
  pub read : read_file file ≡ found contents end
  pub fact : P (instrument_of contents)

-- where the names of component i's states begin, one byte per state and components in order
abbrev pub offset : Instrument → ℕ → ℕ
offset I zero = 0
offset I (suc i) = offset I i + (table I i).states

module _ (out : List ℕ) (I : Instrument) where
  abbrev n : ℕ
  n = components I

  abbrev S : ℕ → Table
  S = table I

  abbrev κ : ℕ → View Atom
  κ = view_of I

  abbrev node_count : ℕ
  node_count = length I.nodes

  abbrev formula : ℕ → Formula Atom
  formula k = formula_at I.nodes k

  -- DEMAND 2. Bit k of the word at a combined state's index is the truth of node k there; bits past the nodes are 0.
  pub record FullMeans : Type 0 where
    pub truth : (s : State n S) (k : ℕ)
        → T (has (get_or out (index n (λ i. (S i).states) s.at) 0) k) ↔ ((k < node_count) × Truth n S (value_of I) (formula k) s)

  -- the words of component i and node k, PASS then FAIL
  abbrev pass_at : ℕ → ℕ → ℕ
  pass_at i k = get_or out (2 * node_count * i + 2 * k) 0

  abbrev fail_at : ℕ → ℕ → ℕ
  fail_at i k = get_or out (2 * node_count * i + (2 * k + 1)) 0

  -- DEMAND 3, marks. The words are PASS and FAIL of document 01; and whatever partner tables stand beside a component, in whatever order, the
  -- node is true in every combined state whose state of that component is PASS, and false where it is FAIL.
  pub record MarksMean : Type 0 where
    pub pass : (i k : ℕ) → i < n → k < node_count → (x : ℕ) → T (has (pass_at i k) x) ↔ ((x < (S i).states) × Pass (S i) (κ i) (formula k) x)
    pub fail : (i k : ℕ) → i < n → k < node_count → (x : ℕ) → T (has (fail_at i k) x) ↔ ((x < (S i).states) × Fail (S i) (κ i) (formula k) x)
    pub beside : (i k : ℕ) → i < n → k < node_count → (m : ℕ) (P : ℕ → Table) (j : ℕ) → j < m → P j ≡ S i
        → ((l : ℕ) → l < m → l ≢ j → Partner (S i) (P l)) → (s : State m P)
        → (T (has (pass_at i k) (s.at j)) → Truth m P (value m P) (formula k) s)
        × (T (has (fail_at i k) (s.at j)) → Truth m P (value m P) (formula k) s → ⊥)
    -- document 02, 6/14: no combined state is marked PASS for a node by one component and FAIL for the same node by another
    pub never_both : (i j k : ℕ) → i < n → j < n → k < node_count → (s : State n S) → T (has (pass_at i k) (s.at i)) → T (has (fail_at j k) (s.at j)) → ⊥

  -- DEMAND 3, classes. The names are those of the classes of the largest relation that the rules allow at the root.
  pub record ClassesMean : Type 0 where
    pub names : (i : ℕ) → i < n → ClassNames (S i) (Rel (S i) (κ i) (root_formula I)) (λ x. get_or out (offset I i + x) 0)

  -- DEMAND 3, merged words. At the merged state of a combined state, bit k is the truth of node k in that combined state on the delivered
  -- tables, if node k is the root or stands under it, and 0 if not; and every word is the word of some combined state.
  pub record MergedMeans : Type 0 where
    pub truth : (s : State n S) (k : ℕ)
        → T (has (get_or out (merged_index n S (classes_at I) s.at) 0) k) ↔ (Beneath I.nodes k (root_node I) × Truth n S (value_of I) (formula k) s)
    pub onto : (x : ℕ) → x < merged_size I → (s : State n S) × (merged_index n S (classes_at I) s.at ≡ x)

-- DEMAND 3, lookup. The asked numbers are a combined state, and the answer is the truth of the root in it on the delivered tables.
pub record LookupMeans (asked : List ℕ) (answer : Bool) (I : Instrument) : Type 0 where
  pub state : State (components I) (table I)
  pub is : (i : ℕ) → i < components I → state.at i ≡ get_or asked i 0
  pub truth : T answer ↔ Truth (components I) (table I) (value_of I) (root_formula I) state

-- The verdict is the right one on the starts as combined states, with its stage.
pub record VerdictMeans (j : Judgement) (I : Instrument) : Type 0 where
  pub start : List ℕ → State (components I) (table I)
  pub is : All (λ s. (i : ℕ) → i < components I → (start s).at i ≡ get_or s i 0) I.starts
  pub right : let n = components I in let S = table I in
      Right n S (view_of I) (root_formula I) (Truth n S (value_of I) (root_formula I)) start I.starts (merged_size I ≤ 4096)
      (judged j.verdict j.stage)

-- the file is accepted and has component c
pub record HasComponent (file : List ℕ) (c : ℕ) : Type 0 where
  pub contents : Contents
  pub end : ℕ
  pub read : read_file file ≡ found contents end
  pub below : c < length contents.components

-- The stretch of component c. The part is not empty and lies in the file; and the component's own parser, from the part's first byte on, reads
-- the file's component c and ends with the part's last byte.
pub record StretchMeans (file : List ℕ) (c : ℕ) (part : List ℕ) : Type 0 where
  pub has : HasComponent file c
  pub some : part ≢ []
  pub before : List ℕ
  pub after : List ℕ
  pub lies : before ++ (part ++ after) ≡ file
  pub itself : let k = has.contents in
      component limits filled k.signals (driven_by 0 (take c k.components)) file (length before)
      ≡ found (component_at k c) (length before + length part)

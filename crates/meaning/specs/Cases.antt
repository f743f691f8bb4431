-- The starred bench cases of document 01: one table, each row a file's bytes and a fact, and what the fact says by the meanings (Bench cases).
use Rattle.std.specs.Prelude.{◌≡◌, ◌↔◌, List, [], ◌∷◌, ◌++◌, get_or, length, T, ℕ, ◌≤◌, ◌<◌}
use Rattle.words.specs.Sets.{has}
use Rattle.meaning.specs.Atoms.{Atom}
use Rattle.meaning.specs.Tests.{All}
use Rattle.meaning.specs.Table.{Table}
use Rattle.meaning.specs.Nodes.{formula_at, Beneath}
use Rattle.meaning.specs.Instrument.{Instrument, components, table, root_node, root_formula, Accepted}
use Rattle.meaning.specs.File.Parser.{Got, found, fault}
use Rattle.meaning.specs.File.Grammar.{Contents, instrument_of, read_file}
use Rattle.meaning.specs.Combination.{State, Truth, count, index}
use Rattle.meaning.specs.View.{View, whole_words}
use Rattle.meaning.specs.Seen.{value_of, view_of}
use Rattle.meaning.specs.Marks.{Pass, Fail}
use Rattle.meaning.specs.Relation.{Rel}
use Rattle.meaning.specs.Classes.{ClassNames}
use Rattle.meaning.specs.Merged.{merged_tables, merged_sizes, merged_count_of, merged_index, MergedTruth}
use Rattle.meaning.specs.Verdict.{Answer, judged, holds, fails, marks, merged, Right}

-- What a case says of a file: it is refused, or something of its root. Sets are words, bit t for state t; full and merged words have bit k for node k; a start is its
-- states in component order. Classes were others where whole output words were compared, before 3/14 of document 02.
pub data Fact : Type 0 where
  refused : (number : ℕ) → Fact
  pass : (component set : ℕ) → Fact
  fail : (component set : ℕ) → Fact
  classes : (component : ℕ) → List ℕ → Fact
  were_classes : (component : ℕ) → List ℕ → Fact
  full_words : List ℕ → Fact
  merged_words : List ℕ → Fact
  merged_of : (start : List ℕ) (index : ℕ) → Fact
  combinations : (merged full : ℕ) → Fact
  verdict : Answer → Fact

-- the bits of w are the numbers with P, and no others
abbrev pub WordOf : (ℕ → Type 0) → ℕ → Type 0
WordOf P w = (x : ℕ) → T (has w x) ↔ P x

module _ (I : Instrument) where
  abbrev n : ℕ
  n = components I

  abbrev S : ℕ → Table
  S = table I

  abbrev κ : ℕ → View Atom
  κ = view_of I

  abbrev sizes : ℕ → ℕ
  sizes i = (S i).states

  -- cls names the classes of every component's relation at the root
  abbrev pub RootClasses : (ℕ → ℕ → ℕ) → Type 0
  RootClasses cls = (i : ℕ) → i < n → ClassNames (S i) (Rel (S i) (κ i) (root_formula I)) (cls i)

  -- the names of component i's classes, where this is seen of it
  abbrev pub Named : View Atom → ℕ → List ℕ → Type 0
  Named v i names = (i < n) × (length names ≡ (S i).states) × ClassNames (S i) (Rel (S i) v (root_formula I)) (λ x. get_or names x 0)

  -- s is the combined state that the start writes
  abbrev pub Writes : List ℕ → State n S → Type 0
  Writes start s = (i : ℕ) → i < n → s.at i ≡ get_or start i 0

  abbrev pub Means : Fact → Type 0
  Means (refused r) = ⊥
  Means (pass i w) = (i < n) × WordOf (λ x. (x < (S i).states) × Pass (S i) (κ i) (root_formula I) x) w
  Means (fail i w) = (i < n) × WordOf (λ x. (x < (S i).states) × Fail (S i) (κ i) (root_formula I) x) w
  Means (classes i names) = Named (κ i) i names
  Means (were_classes i names) = Named (whole_words (S i)) i names
  Means (full_words ws) =
      (length ws ≡ count n sizes)
      × ((s : State n S) → WordOf (λ k. (k < length I.nodes) × Truth n S (value_of I) (formula_at I.nodes k) s) (get_or ws (index n sizes s.at) 0))
  Means (merged_words ws) =
      (cls : ℕ → ℕ → ℕ) × RootClasses cls × (length ws ≡ merged_count_of n S cls)
      × ((c : State n (merged_tables n S cls))
      → WordOf (λ k. Beneath I.nodes k (root_node I) × MergedTruth n S cls κ (value_of I) (formula_at I.nodes k) c)
      (get_or ws (index n (merged_sizes n S cls) c.at) 0))
  Means (merged_of start x) =
      (cls : ℕ → ℕ → ℕ) × RootClasses cls × ((s : State n S) → Writes start s → merged_index n S cls s.at ≡ x)
  Means (combinations m f) = (cls : ℕ → ℕ → ℕ) × RootClasses cls × (merged_count_of n S cls ≡ m) × (count n sizes ≡ f)
  Means (verdict a) =
      (cls : ℕ → ℕ → ℕ) × RootClasses cls × (f : List ℕ → State n S) × All (λ start. Writes start (f start)) I.starts
      × Right n S κ (root_formula I) (Truth n S (value_of I) (root_formula I)) f I.starts (merged_count_of n S cls ≤ 4096) a

-- what a fact says of a file as it was read: the refusal, or an instrument that is as promised and has the fact
abbrev pub Reads : Got Contents → Fact → Type 0
Reads (fault r) f = f ≡ refused r
Reads (found c e) f = Accepted (instrument_of c) × Means (instrument_of c) f

pub record Case : Type 0 where
  pub file : List ℕ
  pub fact : Fact

abbrev pub CaseHolds : Case → Type 0
CaseHolds r = Reads (read_file r.file) r.fact

abbrev row : List ℕ → Fact → Case
row file f = record { file = file; fact = f }

-- the chain: states p, p, not p; 0 goes to 1, 1 to 2, 2 stays; start 0; with the formula's bytes
abbrev pub chain : List ℕ → List ℕ
chain formula = (1 ∷ 1 ∷ 3 ∷ 0 ∷ 1 ∷ 0 ∷ 1 ∷ 1 ∷ 0 ∷ 2 ∷ 4 ∷ 4 ∷ []) ++ (formula ++ (1 ∷ 0 ∷ []))

-- EG p; EX p; true EU not p; true; and true after p and EG p, which are not under it
abbrev pub chain_eg : List ℕ
chain_eg = chain (2 ∷ 1 ∷ 0 ∷ 5 ∷ 0 ∷ [])

abbrev pub chain_ex : List ℕ
chain_ex = chain (2 ∷ 1 ∷ 0 ∷ 4 ∷ 0 ∷ [])

abbrev pub chain_eu : List ℕ
chain_eu = chain (4 ∷ 0 ∷ 1 ∷ 0 ∷ 2 ∷ 1 ∷ 6 ∷ 0 ∷ 2 ∷ [])

abbrev pub chain_true : List ℕ
chain_true = chain (1 ∷ 0 ∷ [])

abbrev pub chain_spare : List ℕ
chain_spare = chain (3 ∷ 1 ∷ 0 ∷ 5 ∷ 0 ∷ 0 ∷ [])

-- the pair, formula EG of signal 0, with the bytes of the starts
abbrev pub pair : List ℕ → List ℕ
pair starts =
    (2 ∷ 2 ∷ 2 ∷ 1 ∷ 1 ∷ 1 ∷ 0 ∷ 1 ∷ 0 ∷ 2 ∷ 1 ∷ 2 ∷ 2 ∷ 2 ∷ 0 ∷ 1 ∷ 1 ∷ 1 ∷ 0 ∷ 3 ∷ 2 ∷ 2 ∷ 1 ∷ 0 ∷ 5 ∷ 0 ∷ []) ++ starts

-- two states that stay, alike in signal 0 and not in signal 1; root signal 0
abbrev pub lamps : List ℕ
lamps = 1 ∷ 2 ∷ 2 ∷ 0 ∷ 2 ∷ 0 ∷ 1 ∷ 0 ∷ 2 ∷ 1 ∷ 2 ∷ 1 ∷ 1 ∷ 0 ∷ 0 ∷ []

-- document 02, 3/14: two states of component 0 that stay, alike but for a lamp, signal 0, which nothing reads; component 1 drives signal 1, high
-- in its state 0 alone; root EG of signal 1
abbrev pub unread_lamp : List ℕ
unread_lamp = 2 ∷ 2 ∷ 2 ∷ 0 ∷ 1 ∷ 0 ∷ 0 ∷ 1 ∷ 1 ∷ 2 ∷ 2 ∷ 0 ∷ 1 ∷ 1 ∷ 1 ∷ 0 ∷ 2 ∷ 1 ∷ 2 ∷ 1 ∷ 1 ∷ 5 ∷ 0 ∷ 1 ∷ 0 ∷ 0 ∷ []

-- The starred cases. Rows beside them: the chain's listing (classes, combinations), which merged state a start has, no starts, bits of nodes
-- that are not under the root, states that differ only in a signal that the root does not name, the unread lamp, and files for every refusal's
-- number.
abbrev pub cases : List Case
cases =
    row chain_eg (pass 0 0)
    ∷ row chain_eg (fail 0 7)
    ∷ row chain_eg (merged_words (1 ∷ 0 ∷ []))
    ∷ row chain_eg (classes 0 (0 ∷ 0 ∷ 2 ∷ []))
    ∷ row chain_eg (combinations 2 3)
    ∷ row chain_eg (verdict (judged fails marks))
    ∷ row chain_ex (pass 0 1)
    ∷ row chain_ex (fail 0 6)
    ∷ row chain_ex (classes 0 (0 ∷ 1 ∷ 2 ∷ []))
    ∷ row chain_eu (pass 0 7)
    ∷ row chain_eu (classes 0 (0 ∷ 0 ∷ 2 ∷ []))
    ∷ row chain_eu (verdict (judged holds marks))
    ∷ row chain_true (classes 0 (0 ∷ 0 ∷ 0 ∷ []))
    ∷ row chain_true (pass 0 7)
    ∷ row (pair (1 ∷ 0 ∷ 0 ∷ [])) (full_words (3 ∷ 0 ∷ 1 ∷ 0 ∷ []))
    ∷ row (pair (1 ∷ 0 ∷ 0 ∷ [])) (verdict (judged holds merged))
    ∷ row (pair (1 ∷ 0 ∷ 1 ∷ [])) (verdict (judged fails merged))
    ∷ row (pair (1 ∷ 1 ∷ 0 ∷ [])) (verdict (judged fails marks))
    ∷ row [] (refused 1)
    ∷ row (128 ∷ 0 ∷ []) (refused 2)
    ∷ row (128 ∷ []) (refused 1)
    ∷ row (0 ∷ []) (refused 3)
    ∷ row (pair (0 ∷ [])) (verdict (judged holds marks))
    ∷ row (pair (0 ∷ [])) (fail 0 2)
    ∷ row (pair (0 ∷ [])) (merged_words (3 ∷ 0 ∷ 1 ∷ 0 ∷ []))
    ∷ row (pair (0 ∷ [])) (merged_of (0 ∷ 1 ∷ []) 2)
    ∷ row chain_spare (merged_words (4 ∷ []))
    ∷ row lamps (classes 0 (0 ∷ 0 ∷ []))
    ∷ row unread_lamp (were_classes 0 (0 ∷ 1 ∷ []))
    ∷ row unread_lamp (classes 0 (0 ∷ 0 ∷ []))
    ∷ row unread_lamp (classes 1 (0 ∷ 1 ∷ []))
    ∷ row unread_lamp (combinations 2 4)
    ∷ row unread_lamp (verdict (judged fails marks))
    ∷ row (pair (0 ∷ 0 ∷ [])) (refused 10)
    -- a signal not ascending, twice the same, not below W; one that is an own input too counts as not ascending first
    ∷ row (1 ∷ 2 ∷ 1 ∷ 0 ∷ 2 ∷ 1 ∷ 0 ∷ []) (refused 4)
    ∷ row (1 ∷ 2 ∷ 1 ∷ 0 ∷ 2 ∷ 1 ∷ 1 ∷ []) (refused 4)
    ∷ row (1 ∷ 1 ∷ 1 ∷ 0 ∷ 1 ∷ 1 ∷ []) (refused 4)
    ∷ row (1 ∷ 2 ∷ 1 ∷ 1 ∷ 0 ∷ 2 ∷ 1 ∷ 0 ∷ []) (refused 4)
    -- an output that is an own input, and one that another component drives
    ∷ row (1 ∷ 1 ∷ 1 ∷ 1 ∷ 0 ∷ 1 ∷ 0 ∷ []) (refused 5)
    ∷ row (2 ∷ 1 ∷ 1 ∷ 0 ∷ 1 ∷ 0 ∷ 0 ∷ 1 ∷ 1 ∷ 0 ∷ 1 ∷ 0 ∷ []) (refused 5)
    -- an output word and a successor set with a bit too high; an empty set is no fault (specs/StayCases), so that the file ends after it
    ∷ row (1 ∷ 0 ∷ 1 ∷ 0 ∷ 0 ∷ 1 ∷ []) (refused 6)
    ∷ row (1 ∷ 0 ∷ 1 ∷ 0 ∷ 0 ∷ 0 ∷ 2 ∷ []) (refused 6)
    ∷ row (1 ∷ 0 ∷ 1 ∷ 0 ∷ 0 ∷ 0 ∷ 0 ∷ []) (refused 1)
    -- an unknown kind, before its operands, and an operand that is the node itself
    ∷ row (1 ∷ 0 ∷ 1 ∷ 0 ∷ 0 ∷ 0 ∷ 1 ∷ 1 ∷ 7 ∷ []) (refused 7)
    ∷ row (1 ∷ 0 ∷ 1 ∷ 0 ∷ 0 ∷ 0 ∷ 1 ∷ 1 ∷ 2 ∷ 0 ∷ []) (refused 7)
    -- a signal that no component drives, and one that is none
    ∷ row (1 ∷ 1 ∷ 1 ∷ 0 ∷ 0 ∷ 0 ∷ 1 ∷ 1 ∷ 1 ∷ 0 ∷ []) (refused 8)
    ∷ row (1 ∷ 0 ∷ 1 ∷ 0 ∷ 0 ∷ 0 ∷ 1 ∷ 1 ∷ 1 ∷ 0 ∷ []) (refused 8)
    -- a start that is no state, and a byte after the last start
    ∷ row (1 ∷ 0 ∷ 1 ∷ 0 ∷ 0 ∷ 0 ∷ 1 ∷ 1 ∷ 0 ∷ 1 ∷ 1 ∷ []) (refused 9)
    ∷ row (1 ∷ 0 ∷ 1 ∷ 0 ∷ 0 ∷ 0 ∷ 1 ∷ 1 ∷ 0 ∷ 0 ∷ 0 ∷ []) (refused 10)
    ∷ []

-- The starred bench cases hold: each row's test is computed, and means what the row says. What the guard and the promise of no dead end are
-- for.
use mathlib.Core.Path.{◌∙◌, ◌≡◌, ap, ap₂, refl, subst, sym}
use mathlib.Core.Logic.{◌↔◌}
use mathlib.Core.Bool.{Bool, beq, ◌&&◌, false, true}
use mathlib.Core.List.{List}
use lib.Dec.{T, eqb, eqb→eq, ltb, ltb→lt}
use lib.ListN.{get_or, length}
use native.Mathlib.Nat.{mod-eq_of_lt, mod-lt}
use native.Mathlib.Omega.{arith}
use Prim.Native.Nat.{◌%◌, ◌<◌, ◌^◌, ◌≤◌, suc, ℕ}
use Rattle.words.proofs.Members.{has_lt}
use Rattle.words.specs.Sets.{built, digit, has, insert, intersection}
use Rattle.meaning.specs.Atoms.{Atom}
use Rattle.meaning.specs.Cases.{Case, CaseHolds, Fact, Means, Named, Reads, RootClasses, WordOf, Writes, cases, classes, combinations, fail}
use Rattle.meaning.specs.Cases.{full_words, merged_of, merged_words, pass, refused, verdict, were_classes}
use Rattle.meaning.specs.Classes.{ClassNames, class_number}
use Rattle.meaning.specs.Combination.{State, Truth, count, index}
use Rattle.meaning.specs.File.Grammar.{Contents, between, component, instrument_of, less_than, named, node, read_file, signal, start}
use Rattle.meaning.specs.File.Grammar.{whole, with_all}
use Rattle.meaning.specs.File.Number.{groups}
use Rattle.meaning.specs.File.Parser.{Got, fault, found, list_of}
use Rattle.meaning.specs.Formula.{Formula}
use Rattle.meaning.specs.Instrument.{Accepted, Instrument, IsStart, WellFormed, components, root_formula, root_node, table}
use Rattle.meaning.specs.Marks.{Fail, Pass}
use Rattle.meaning.specs.Merged.{MergedTruth, class_numbers, merged_count_of, merged_index, merged_sizes, merged_tables}
use Rattle.meaning.specs.Nodes.{Beneath, formula_at}
use Rattle.meaning.specs.Reference.Marks.{fail_b, pass_b}
use Rattle.meaning.specs.Reference.Merged.{merged_b}
use Rattle.meaning.specs.Reference.Nodes.{beneath_b}
use Rattle.meaning.specs.Reference.Relation.{root_class}
use Rattle.meaning.specs.Reference.Tests.{all_below, all_of}
use Rattle.meaning.specs.Reference.Truth.{truth_b}
use Rattle.meaning.specs.Reference.Verdict.{root_classes, verdict_b}
use Rattle.meaning.specs.Reference.WellFormed.{accepted_b, is_start_b}
use Rattle.meaning.specs.Relation.{Rel}
use Rattle.meaning.specs.Table.{Table}
use Rattle.meaning.specs.Tests.{All}
use Rattle.meaning.specs.Verdict.{Answer, Right, Stage, Verdict, fails, holds, judged, marks, merged}
use Rattle.meaning.specs.Verdict.{oversized}
use Rattle.meaning.specs.View.{View, whole_words}
use Rattle.meaning.specs.Seen.{value_of, view_of}
use Rattle.meaning.proofs.Basic.Booleans.{and_in, and_l, and_r, beq_eq, conj}
use Rattle.meaning.proofs.Basic.Bounded.{all_out}
use Rattle.meaning.proofs.Basic.Decides.{Decides}
use Rattle.meaning.proofs.Basic.Lists.{all_map, all_sound}
use Rattle.meaning.proofs.Classes.Described.{root_names}
use Rattle.meaning.proofs.Demands.{full_way, merged_bits, root_class_names, root_equivalence, verdict_right}
use Rattle.meaning.proofs.File.Nodes.{beneath_in, beneath_listed, beneath_out}
use Rattle.meaning.proofs.File.Promise.{accepted_sound}
use Rattle.meaning.proofs.Marks.Decided.{fail_decides, pass_decides}
use Rattle.meaning.proofs.Marks.Laws.{Fits, Lawful}
use Rattle.meaning.proofs.Marks.Atoms.{atoms_lawful, value_local, view_fit}
use Rattle.meaning.proofs.Meaning.Index.{index_lt, index_same}

-- a word with the bits of f below m and none from m on
abbrev word_b : ℕ → (ℕ → Bool) → ℕ → Bool
word_b m f w = ltb w (2 ^ m) && all_below m (λ x. beq (has w x) (f x))

word_means : (m : ℕ) (f : ℕ → Bool) (P : ℕ → Type 0) (w : ℕ) → T (word_b m f w) → ((x : ℕ) → x < m → T (f x) ↔ P x)
    → WordOf (λ x. (x < m) × P x) w
word_means m f P w h d x = (
  λ b. let l = has_lt m w x (ltb→lt w (2 ^ m) (search conj)) b in (l, (d x l).0 (subst T (same l) b)),
  λ p. subst T (sym (same p.0)) ((d x p.0).1 p.1),
)
  where
    same : x < m → has w x ≡ f x
    same l = beq_eq (has w x) (f x) (all_out m (λ x. beq (has w x) (f x)) (search conj) x l)

-- a list of the words that a test gives for the numbers below m
abbrev words_b : ℕ → ℕ → (ℕ → ℕ → Bool) → List ℕ → Bool
words_b m b f ws = eqb (length ws) m && all_below m (λ x. word_b b (f x) (get_or ws x 0))

-- an answer, tested
abbrev verdict_is : Verdict → Verdict → Bool
verdict_is holds holds = true
verdict_is holds fails = false
verdict_is fails holds = false
verdict_is fails fails = true

abbrev stage_is : Stage → Stage → Bool
stage_is marks marks = true
stage_is marks merged = false
stage_is merged marks = false
stage_is merged merged = true

abbrev answer_is : Answer → Answer → Bool
answer_is (judged v g) (judged w h) = verdict_is v w && stage_is g h
answer_is (judged v g) oversized = false
answer_is oversized (judged v g) = false
answer_is oversized oversized = true

verdict_eq : (v w : Verdict) → T (verdict_is v w) → v ≡ w
verdict_eq holds holds h = refl
verdict_eq holds fails h = absurd h
verdict_eq fails holds h = absurd h
verdict_eq fails fails h = refl

stage_eq : (g h : Stage) → T (stage_is g h) → g ≡ h
stage_eq marks marks h = refl
stage_eq marks merged h = absurd h
stage_eq merged marks h = absurd h
stage_eq merged merged h = refl

answer_eq : (a b : Answer) → T (answer_is a b) → a ≡ b
answer_eq (judged v g) (judged w h) t = ap₂ judged (verdict_eq v w (search conj)) (stage_eq g h (search conj))
answer_eq (judged v g) oversized t = absurd t
answer_eq oversized (judged v g) t = absurd t
answer_eq oversized oversized t = refl

module _ (I : Instrument) where
  abbrev n : ℕ
  n = components I

  abbrev S : ℕ → Table
  S = table I

  abbrev κ : ℕ → View Atom
  κ = view_of I

  abbrev ρ : Formula Atom
  ρ = root_formula I

  abbrev cls : ℕ → ℕ → ℕ
  cls = root_classes n S κ ρ

  abbrev sizes : ℕ → ℕ
  sizes i = (S i).states

  abbrev formula : ℕ → Formula Atom
  formula k = formula_at I.nodes k

  -- a start as a combined state
  abbrev state_of : List ℕ → ℕ → ℕ
  state_of start i = get_or start i 0 % (S i).states

  -- the bits of node k at an index, in the full and in the merged combination
  abbrev full_b : ℕ → ℕ → Bool
  full_b x k = truth_b n S I.signals (value_of I) (formula k) x

  abbrev under_b : ℕ → Bool
  under_b k = beneath_b I.nodes (suc (root_node I)) k (root_node I)

  abbrev bit_b : ℕ → ℕ → Bool
  bit_b x k = under_b k && merged_b n S cls κ (value_of I) I.signals (formula k) x

  abbrev named_b : View Atom → ℕ → List ℕ → Bool
  named_b v i names = ltb i n && (eqb (length names) (S i).states && all_below (S i).states (λ x. eqb (get_or names x 0) (root_class (S i) v ρ x)))

  abbrev fact_b : Fact → Bool
  fact_b (refused r) = false
  fact_b (pass i w) = ltb i n && word_b (S i).states (pass_b (S i) (κ i) ρ) w
  fact_b (fail i w) = ltb i n && word_b (S i).states (fail_b (S i) (κ i) ρ) w
  fact_b (classes i names) = named_b (κ i) i names
  fact_b (were_classes i names) = named_b (whole_words (S i)) i names
  fact_b (full_words ws) = words_b (count n sizes) (length I.nodes) full_b ws
  fact_b (merged_words ws) = words_b (merged_count_of n S cls) (length I.nodes) bit_b ws
  fact_b (merged_of start x) = is_start_b I start && eqb (merged_index n S cls (λ i. get_or start i 0)) x
  fact_b (combinations m f) = eqb (merged_count_of n S cls) m && eqb (count n sizes) f
  fact_b (verdict a) = answer_is (verdict_b n S κ ρ 4096 I.signals (value_of I) state_of I.starts) a

  module _ (accepted : Accepted I) where
    abbrev good : WellFormed n S I.signals
    good = accepted.well_formed

    fits : Fits n S (value_of I) κ
    fits = view_fit I accepted

    names : RootClasses I cls
    names = root_class_names n S I.signals good (value_of I) κ fits ρ

    marked : (i w : ℕ) (b : ℕ → Bool) (P : ℕ → Type 0) → T (ltb i n && word_b (S i).states b w) → (i < n → Decides (S i).states b P)
        → (i < n) × WordOf (λ x. (x < (S i).states) × P x) w
    marked i w b P h d =
        let l = ltb→lt i n (search conj) in
        (l, word_means (S i).states b P w (search conj) (λ x k. ((d l).sound x k, (d l).whole x k)))

    naming : (v : View Atom) (i : ℕ) (ns : List ℕ) → (i < n → Lawful (S i) v) → T (named_b v i ns) → Named I v i ns
    naming v i ns law h = (
      l,
      eqb→eq (length ns) (S i).states (search conj),
      record {
        member = λ x k. subst (λ y. Rel (S i) v ρ x y) (sym (same x k)) (lowest_names.member x k);
        lowest = λ x y k j r. let e = same x k in let z = lowest_names.lowest x y k j r in omega arith;
      },
    )
      where
        l : i < n
        l = ltb→lt i n (search conj)

        lowest_names : ClassNames (S i) (Rel (S i) v ρ) (root_class (S i) v ρ)
        lowest_names = root_names (S i) v (law l) ρ

        same : (x : ℕ) → x < (S i).states → get_or ns x 0 ≡ root_class (S i) v ρ x
        same x k = eqb→eq (get_or ns x 0) (root_class (S i) v ρ x) (all_out (S i).states (λ x. eqb (get_or ns x 0) (root_class (S i) v ρ x)) (search conj) x k)

    -- the listed word at an index below the count
    at : (m b : ℕ) (f : ℕ → ℕ → Bool) (ws : List ℕ) → T (words_b m b f ws) → (x : ℕ) → x < m → T (word_b b (f x) (get_or ws x 0))
    at m b f ws h x l = all_out m (λ x. word_b b (f x) (get_or ws x 0)) (search conj) x l

    full : (ws : List ℕ) → T (fact_b (full_words ws)) → Means I (full_words ws)
    full ws h = (
      eqb→eq (length ws) (count n sizes) (search conj),
      λ s.
          let x = index n sizes s.at in
          word_means (length I.nodes) (full_b x) (λ k. Truth n S (value_of I) (formula k) s) (get_or ws x 0)
          (at (count n sizes) (length I.nodes) full_b ws h x (index_lt n sizes s.at s.ok))
          (λ k l. full_way n S I.signals good (value_of I) (value_local I) (formula k) s),
    )

    under_means : (k : ℕ) → T (under_b k) ↔ Beneath I.nodes k (root_node I)
    under_means k = (
      beneath_out I.nodes (suc (root_node I)) k (root_node I),
      beneath_in I.nodes accepted.earlier (suc (root_node I)) k (root_node I) (omega arith),
    )

    short : (ws : List ℕ) → T (fact_b (merged_words ws)) → Means I (merged_words ws)
    short ws h = (
      cls,
      names,
      eqb→eq (length ws) (merged_count_of n S cls) (search conj),
      λ c k. (λ b. ((word c k).0 b).1, λ p. (word c k).1 (beneath_listed I.nodes accepted.earlier k accepted.rooted p.0, p)),
    )
      where
        True : State n (merged_tables n S cls) → ℕ → Type 0
        True c k = Beneath I.nodes k (root_node I) × MergedTruth n S cls κ (value_of I) (formula k) c

        bit : (c : State n (merged_tables n S cls)) (k : ℕ) → T (bit_b (index n (merged_sizes n S cls) c.at) k) ↔ True c k
        bit c k =
            let x = index n (merged_sizes n S cls) c.at in
            let u = under_b k in
            let v = merged_b n S cls κ (value_of I) I.signals (formula k) x in
            let t = merged_bits n S I.signals good (value_of I) κ fits (λ i. Rel (S i) (κ i) ρ)
            (root_equivalence n S I.signals good (value_of I) κ fits ρ) cls names (formula k) c in (
              λ b. ((under_means k).0 (and_l u v b), t.0 (and_r u v b)),
              λ p. and_in u v ((under_means k).1 p.0) (t.1 p.1),
            )

        word : (c : State n (merged_tables n S cls))
            → WordOf (λ k. (k < length I.nodes) × True c k) (get_or ws (index n (merged_sizes n S cls) c.at) 0)
        word c =
            let x = index n (merged_sizes n S cls) c.at in
            word_means (length I.nodes) (bit_b x) (True c) (get_or ws x 0)
            (at (merged_count_of n S cls) (length I.nodes) bit_b ws h x (index_lt n (merged_sizes n S cls) c.at c.ok)) (λ k l. bit c k)

    -- a start as a combined state
    abbrev start_state_lem : List ℕ → State n S
    start_state_lem start = record { at = state_of start; ok = λ i l. mod-lt (get_or start i 0) (good.some i l) }

    writes : (start : List ℕ) → IsStart I start → Writes I start (start_state_lem start)
    writes start h i l = mod-eq_of_lt (h.1 i l)

    -- the test's answer is the meaning
    means : (f : Fact) → T (fact_b f) → Means I f
    means (refused r) h = absurd h
    means (pass i w) h = marked i w (pass_b (S i) (κ i) ρ) (Pass (S i) (κ i) ρ) h (λ l. pass_decides (S i) (κ i) (good.total i l) ρ)
    means (fail i w) h = marked i w (fail_b (S i) (κ i) ρ) (Fail (S i) (κ i) ρ) h (λ l. fail_decides (S i) (κ i) (good.total i l) ρ)
    means (classes i ns) h = naming (κ i) i ns (fits.lawful i) h
    means (were_classes i ns) h = naming (whole_words (S i)) i ns (λ l. atoms_lawful (S i).out (S i) (good.total i l)) h
    means (full_words ws) h = full ws h
    means (merged_words ws) h = short ws h
    means (merged_of start x) h = (
      cls,
      names,
      λ s w. index_same n (merged_sizes n S cls) (class_numbers n S cls s.at) (class_numbers n S cls (λ i. get_or start i 0))
          (λ i l. ap (class_number (cls i)) (w i l)) ∙ eqb→eq (merged_index n S cls (λ i. get_or start i 0)) x (search conj),
    )
    means (combinations m f) h = (cls, names, eqb→eq (merged_count_of n S cls) m (search conj), eqb→eq (count n sizes) f (search conj))
    means (verdict a) h = (
      cls,
      names,
      start_state_lem,
      all_map writes I.starts accepted.starts,
      subst
          (Right n S κ ρ (Truth n S (value_of I) ρ) start_state_lem I.starts (merged_count_of n S cls ≤ 4096))
          (answer_eq (verdict_b n S κ ρ 4096 I.signals (value_of I) state_of I.starts) a h)
          (verdict_right n S I.signals good (value_of I) κ fits ρ 4096 start_state_lem I.starts),
    )

-- a fact of a file as it was read
abbrev refused_b : ℕ → Fact → Bool
refused_b r (refused q) = eqb q r
refused_b r (pass i w) = false
refused_b r (fail i w) = false
refused_b r (classes i ns) = false
refused_b r (were_classes i ns) = false
refused_b r (full_words ws) = false
refused_b r (merged_words ws) = false
refused_b r (merged_of start x) = false
refused_b r (combinations m f) = false
refused_b r (verdict a) = false

refused_means : (r : ℕ) (f : Fact) → T (refused_b r f) → f ≡ refused r
refused_means r (refused q) h = ap refused (eqb→eq q r h)
refused_means r (pass i w) h = absurd h
refused_means r (fail i w) h = absurd h
refused_means r (classes i ns) h = absurd h
refused_means r (were_classes i ns) h = absurd h
refused_means r (full_words ws) h = absurd h
refused_means r (merged_words ws) h = absurd h
refused_means r (merged_of start x) h = absurd h
refused_means r (combinations m f) h = absurd h
refused_means r (verdict a) h = absurd h

abbrev reads_b : Got Contents → Fact → Bool
reads_b (fault r) f = refused_b r f
reads_b (found c e) f = accepted_b (instrument_of c) && fact_b (instrument_of c) f

pub reads_means : (g : Got Contents) (f : Fact) → T (reads_b g f) → Reads g f
reads_means (fault r) f h = refused_means r f h
reads_means (found c e) f h =
    let a = accepted_sound (instrument_of c) (search conj) in
    (a, means (instrument_of c) a f (search conj))

abbrev pub case_b : Case → Bool
case_b r = reads_b (read_file r.file) r.fact

-- all the starred cases: tested, and so they hold
starred_tested : T (all_of case_b cases)
unfolding digit built insert intersection with_all groups list_of between less_than signal component named node whole
starred_tested = tt

pub starred : All CaseHolds cases
starred = all_sound CaseHolds case_b (λ r. reads_means (read_file r.file) r.fact) cases starred_tested

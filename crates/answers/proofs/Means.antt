-- The entries of an accepted answer mean what specs/Means says, of any instrument that the reader accepts.
use mathlib.Core.Path.{◌≡◌, refl, sym, subst, ◌∙◌}
use mathlib.Core.Logic.{◌↔◌, ◌≢◌}
use mathlib.Core.Bool.{Bool, ◌&&◌}
use mathlib.Core.List.{List, [], ◌∷◌}
use lib.Dec.{T}
use lib.ListN.{length, get_or, length-append}
use native.Mathlib.Omega.{arith}
use Prim.Native.Nat.{ℕ, zero, suc, ◌+◌, ◌*◌, ◌≤◌, ◌<◌}
use Rattle.words.specs.Sets.{has, built}
use Rattle.words.proofs.Built.{has_built, has_built_lt}
use Rattle.meaning.specs.Atoms.{Atom}
use Rattle.meaning.specs.Table.{Table, Total}
use Rattle.meaning.specs.Formula.{Formula}
use Rattle.meaning.specs.Nodes.{formula_at, Beneath}
use Rattle.meaning.specs.Instrument.{Instrument, Accepted, components, table, root_node, root_formula, Partner}
use Rattle.meaning.specs.Combination.{State, Truth, index}
use Rattle.meaning.specs.View.{View, atoms}
use Rattle.meaning.specs.Seen.{value, value_of, view_of}
use Rattle.meaning.specs.Marks.{Pass, Fail}
use Rattle.meaning.specs.Relation.{Rel}
use Rattle.meaning.specs.Merged.{merged_index, merged_sizes, class_numbers}
use Rattle.meaning.specs.Reference.Nodes.{beneath_b}
use Rattle.meaning.specs.Reference.Merged.{merged_b}
use Rattle.meaning.specs.Reference.Answers.{merged_size, merged_word, merged_words}
use Rattle.meaning.specs.Reference.Answers.{list_below, join_below, full_word, full_words, full_count, pass_word, fail_word, mark_words_of, classes_at, class_names_of}
use Rattle.answers.specs.Buffers.{entries, lent_after}
use Rattle.meaning.specs.Reference.Marks.{pass_b, fail_b}
use Rattle.meaning.specs.Reference.Truth.{truth_b}
use Rattle.meaning.proofs.Basic.Entries.{list_length, list_at, join_length, join_fits, join_at}
use Rattle.answers.proofs.Buffers.{lent_at}
use Rattle.meaning.proofs.Basic.Decides.{Decides}
use Rattle.meaning.proofs.Basic.Booleans.{and_in, and_l, and_r}
use Rattle.meaning.proofs.File.Nodes.{beneath_in, beneath_out, beneath_le}
use Rattle.meaning.proofs.Meaning.Index.{index_lt, index_same}
use Rattle.meaning.proofs.Claims.{full_01, described_01, classes_01, computed_beside, no_clash_01, merged_01, merged_bits_01, merged_state_01}
use Rattle.meaning.proofs.Claims.{merged_index_01}
use Rattle.answers.specs.Means.{FullMeans, MarksMean, ClassesMean, MergedMeans, offset}

-- a set below n that a test makes
pub built_iff : (n : ℕ) (f : ℕ → Bool) (P : ℕ → Type 0) → ((x : ℕ) → x < n → T (f x) ↔ P x) → (x : ℕ) → T (has (built n f) x) ↔ ((x < n) × P x)
built_iff n f P h x = (
  λ b. let l = has_built_lt n f x b in (l, (h x l).0 (subst T (has_built n f x l) b)),
  λ p. subst T (sym (has_built n f x p.0)) ((h x p.0).1 p.1),
)

module _ (I : Instrument) (accepted : Accepted I) (old : List ℕ) where
  abbrev n : ℕ
  n = components I

  abbrev S : ℕ → Table
  S = table I

  abbrev κ : ℕ → View Atom
  κ = view_of I

  abbrev formula : ℕ → Formula Atom
  formula k = formula_at I.nodes k

  abbrev node_count : ℕ
  node_count = length I.nodes

  pub full_means : FullMeans (lent_after (entries (full_words I)) old) I
  full_means = record { truth = truth }
    where
      at : State n S → ℕ
      at s = index n (λ i. (S i).states) s.at

      word : (s : State n S) → get_or (lent_after (entries (full_words I)) old) (at s) 0 ≡ full_word I (at s)
      word s =
          let l : at s < full_count I = index_lt n (λ i. (S i).states) s.at s.ok in
          lent_at (full_words I) old (at s) (omega (arith, list_length (full_count I) (full_word I))) ∙ list_at (full_count I) (full_word I) 0 (at s) l

      truth : (s : State n S) (k : ℕ)
          → T (has (get_or (lent_after (entries (full_words I)) old) (at s) 0) k) ↔ ((k < node_count) × Truth n S (value_of I) (formula k) s)
      truth s k =
          subst (λ w. T (has w k) ↔ ((k < node_count) × Truth n S (value_of I) (formula k) s)) (sym (word s))
          (built_iff node_count (λ k. truth_b n S I.signals (value_of I) (formula k) (at s)) (λ k. Truth n S (value_of I) (formula k) s)
          (λ k l. full_01 I accepted k s) k)

  -- the two words of component i and node k, and their places
  abbrev pair : ℕ → ℕ → List ℕ
  pair i k = pass_word I i k ∷ fail_word I i k ∷ []

  abbrev row_of : ℕ → List ℕ
  row_of i = join_below node_count (pair i)

  row_length : (i k : ℕ) → length (join_below k (pair i)) ≡ 2 * k
  row_length i k = join_length 2 k (pair i) (λ j l. refl)

  mark_at_lem : (i k j : ℕ) → i < n → k < node_count → j < 2
      → get_or (lent_after (entries (mark_words_of I)) old) (2 * node_count * i + (2 * k + j)) 0 ≡ get_or (pair i k) j 0
  mark_at_lem i k j l h q =
      let e : length (join_below i row_of) + (length (join_below k (pair i)) + j) ≡ 2 * node_count * i + (2 * k + j)
      = omega (arith, row_length i k, rows) in
      subst (λ x. get_or (lent_after (entries (mark_words_of I)) old) x 0 ≡ get_or (pair i k) j 0) e
      (lent_at (mark_words_of I) old (length (join_below i row_of) + (length (join_below k (pair i)) + j)) inside
      ∙ (join_at row_of 0 n i (length (join_below k (pair i)) + j) l small ∙ join_at (pair i) 0 node_count k j h q))
    where
      rows : length (join_below i row_of) ≡ 2 * node_count * i
      rows = join_length (2 * node_count) i row_of (λ i l. row_length i node_count)

      all : length (mark_words_of I) ≡ 2 * node_count * n
      all = join_length (2 * node_count) n row_of (λ i l. row_length i node_count)

      small : length (join_below k (pair i)) + j < length (row_of i)
      small = omega (arith, row_length i k, row_length i node_count)

      inside : length (join_below i row_of) + (length (join_below k (pair i)) + j) < length (mark_words_of I)
      inside = omega (arith, small, join_fits row_of n i l)

  pub marks_mean : MarksMean (lent_after (entries (mark_words_of I)) old) I
  marks_mean =
      record {
        pass = pass;
        fail = fail;
        beside = beside;
        never_both = λ i j k l q h s p f. no_clash_01 I accepted k s i j l q ((pass i k l h (s.at i)).0 p).1 ((fail j k q h (s.at j)).0 f).1;
      }
    where
      decided : (m : ℕ) {b : ℕ → Bool} {P : ℕ → Type 0} → Decides m b P → (x : ℕ) → T (has (built m b) x) ↔ ((x < m) × P x)
      decided m {b} {P} d = built_iff m b P (λ x l. (d.sound x l, d.whole x l))

      pass_at_lem : (i k : ℕ) → i < n → k < node_count → get_or (lent_after (entries (mark_words_of I)) old) (2 * node_count * i + 2 * k) 0 ≡ pass_word I i k
      pass_at_lem i k l h =
          let e : 2 * node_count * i + (2 * k + 0) ≡ 2 * node_count * i + 2 * k = omega arith in
          rw e at (mark_at_lem i k 0 l h (omega arith))

      pass : (i k : ℕ) → i < n → k < node_count → (x : ℕ)
          → T (has (get_or (lent_after (entries (mark_words_of I)) old) (2 * node_count * i + 2 * k) 0) x) ↔ ((x < (S i).states) × Pass (S i) (κ i) (formula k) x)
      pass i k l h x =
          subst (λ w. T (has w x) ↔ ((x < (S i).states) × Pass (S i) (κ i) (formula k) x)) (sym (pass_at_lem i k l h))
          (decided (S i).states ((described_01 I accepted i l).marks (formula k)).0 x)

      fail : (i k : ℕ) → i < n → k < node_count → (x : ℕ)
          → T (has (get_or (lent_after (entries (mark_words_of I)) old) (2 * node_count * i + (2 * k + 1)) 0) x)
          ↔ ((x < (S i).states) × Fail (S i) (κ i) (formula k) x)
      fail i k l h x =
          subst (λ w. T (has w x) ↔ ((x < (S i).states) × Fail (S i) (κ i) (formula k) x)) (sym (mark_at_lem i k 1 l h (omega arith)))
          (decided (S i).states ((described_01 I accepted i l).marks (formula k)).1 x)

      -- beside partners: the component's table stands at place j
      beside : (i k : ℕ) → i < n → k < node_count → (m : ℕ) (P : ℕ → Table) (j : ℕ) → j < m → P j ≡ S i
          → ((l : ℕ) → l < m → l ≢ j → Partner (S i) (P l)) → (s : State m P)
          → (T (has (get_or (lent_after (entries (mark_words_of I)) old) (2 * node_count * i + 2 * k) 0) (s.at j)) → Truth m P (value m P) (formula k) s)
          × (T (has (get_or (lent_after (entries (mark_words_of I)) old) (2 * node_count * i + (2 * k + 1)) 0) (s.at j))
          → Truth m P (value m P) (formula k) s → ⊥)
      beside i k l h m P j q e partners s =
          let x = s.at j in
          let low : x < (S i).states = subst (λ t. x < t.states) e (s.ok j q) in
          let b = computed_beside m P j q (subst Total (sym e) (accepted.well_formed.total i l))
          (λ a o z. subst (λ t. Partner t (P a)) (sym e) (partners a o z)) (P j).out (formula k) s in (
            λ t. b.0 (subst (λ t. T (pass_b t (atoms t.out t) (formula k) x)) (sym e)
                (subst T (has_built (S i).states (pass_b (S i) (κ i) (formula k)) x low) (subst (λ w. T (has w x)) (pass_at_lem i k l h) t))),
            λ t. b.1 (subst (λ t. T (fail_b t (atoms t.out t) (formula k) x)) (sym e)
                (subst T (has_built (S i).states (fail_b (S i) (κ i) (formula k)) x low)
                (subst (λ w. T (has w x)) (mark_at_lem i k 1 l h (omega arith)) t))),
          )

  -- the names of component i begin at its offset
  abbrev names_of : ℕ → List ℕ
  names_of i = list_below (S i).states (classes_at I i)

  offset_is : (i : ℕ) → length (join_below i names_of) ≡ offset I i
  offset_is zero = refl
  offset_is (suc i) = length-append (join_below i names_of) (names_of i) ∙ omega (arith, offset_is i, list_length (S i).states (classes_at I i))

  name_at_lem : (i x : ℕ) → i < n → x < (S i).states → get_or (lent_after (entries (class_names_of I)) old) (offset I i + x) 0 ≡ classes_at I i x
  name_at_lem i x l h =
      subst (λ o. get_or (lent_after (entries (class_names_of I)) old) (o + x) 0 ≡ classes_at I i x) (offset_is i)
      (lent_at (class_names_of I) old (length (join_below i names_of) + x) (omega (arith, join_fits names_of n i l, size))
      ∙ (join_at names_of 0 n i x l (omega (arith, size)) ∙ list_at (S i).states (classes_at I i) 0 x h))
    where
      size : length (names_of i) ≡ (S i).states
      size = list_length (S i).states (classes_at I i)

  pub class_means : ClassesMean (lent_after (entries (class_names_of I)) old) I
  class_means =
      record {
        names = λ i l. record {
          member = λ x h. subst (λ z. Rel (S i) (κ i) (root_formula I) x z) (sym (name_at_lem i x l h)) ((classes_01 I accepted i l).member x h);
          lowest = λ x y h k r. subst (λ z. z ≤ y) (sym (name_at_lem i x l h)) ((classes_01 I accepted i l).lowest x y h k r);
        };
      }

  -- the word of a combined state's merged state
  pub merged_means : MergedMeans (lent_after (entries (merged_words I)) old) I
  merged_means = record { truth = truth; onto = merged_index_01 I accepted }
    where
      cls : ℕ → ℕ → ℕ
      cls = classes_at I

      at : State n S → ℕ
      at s = merged_index n S cls s.at

      under_b : ℕ → Bool
      under_b k = beneath_b I.nodes (suc (root_node I)) k (root_node I)

      merged_bit : ℕ → ℕ → Bool
      merged_bit k x = merged_b n S cls κ (value_of I) I.signals (formula k) x

      bit : ℕ → ℕ → Bool
      bit x k = under_b k && merged_bit k x

      beneath_lt : (k : ℕ) → Beneath I.nodes k (root_node I) → k < node_count
      beneath_lt k b = omega (arith, beneath_le I.nodes accepted.earlier k (root_node I) b, accepted.rooted)

      truth : (s : State n S) (k : ℕ)
          → T (has (get_or (lent_after (entries (merged_words I)) old) (at s) 0) k)
          ↔ (Beneath I.nodes k (root_node I) × Truth n S (value_of I) (formula k) s)
      truth s k =
          let (c, m) = merged_state_01 I accepted s in
          let e : at s ≡ index n (merged_sizes n S cls) c.at = index_same n (merged_sizes n S cls) (class_numbers n S cls s.at) c.at (λ i l. sym (m i l)) in
          let l : at s < merged_size I = subst (λ x. x < merged_size I) (sym e) (index_lt n (merged_sizes n S cls) c.at c.ok) in
          let w : get_or (lent_after (entries (merged_words I)) old) (at s) 0 ≡ merged_word I (at s) =
          lent_at (merged_words I) old (at s) (omega (arith, list_length (merged_size I) (merged_word I))) ∙ list_at (merged_size I) (merged_word I) 0 (at s) l
          in
          subst (λ w. T (has w k) ↔ (Beneath I.nodes k (root_node I) × Truth n S (value_of I) (formula k) s)) (sym w) (
            λ h.
                let q = has_built_lt node_count (bit (at s)) k h in
                let b = subst T (has_built node_count (bit (at s)) k q) h in
                let u = beneath_out I.nodes (suc (root_node I)) k (root_node I) (and_l (under_b k) (merged_bit k (at s)) b) in (
                  u,
                  (merged_01 I accepted k u s c m).0
                      ((merged_bits_01 I accepted k c).0 (subst (λ x. T (merged_bit k x)) e (and_r (under_b k) (merged_bit k (at s)) b))),
                ),
            λ h.
                let q : k < node_count = beneath_lt k h.0 in
                subst T (sym (has_built node_count (bit (at s)) k q))
                (and_in (under_b k) (merged_bit k (at s)) (beneath_in I.nodes accepted.earlier (suc (root_node I)) k (root_node I) (omega arith) h.0)
                (subst (λ x. T (merged_bit k x)) (sym e) ((merged_bits_01 I accepted k c).1 ((merged_01 I accepted k h.0 s c m).1 h.1)))),
          )

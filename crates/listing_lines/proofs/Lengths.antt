-- How long the lines of the listing are at most, each number by its value.
use mathlib.Core.Path.{◌≡◌}
use mathlib.Core.Bool.{Bool, true, false, cond}
use mathlib.Core.List.{List, ◌++◌}
use lib.ListN.{length, length-append}
use native.Mathlib.Decide.{dec_lt}
use native.Mathlib.Nat.{mul-zero, mul-suc}
use native.Mathlib.Omega.{arith}
use Prim.Native.Nat.{ℕ, zero, suc, ◌+◌, ◌*◌, ◌≤◌, ◌<◌}
use Rattle.meaning.specs.Verdict.{Verdict, Stage, holds, fails, marks, merged}
use Rattle.meaning.specs.Instrument.{Instrument, components, root_formula, table}
use Rattle.meaning.specs.File.Grammar.{Contents, instrument_of, limits, most_states}
use Rattle.meaning.specs.File.Promise.{Promised}
use Rattle.meaning.specs.Tests.{any_below}
use Rattle.meaning.specs.Seen.{view_of}
use Rattle.meaning.specs.Reference.Relation.{rel_b}
use Rattle.meaning.specs.Reference.Tests.{lowest}
use Rattle.meaning.specs.Reference.Answers.{join_below, classes_at, merged_size, full_count}
use Rattle.meaning.proofs.File.Accepted.{count_is, table_is, promised_at}
use Rattle.answers.specs.Outcomes.{Judgement}
use Rattle.answers.specs.Listing.{decimal, space, line_end, classes_label, of_label, verdict_word, stage_word}
use Rattle.answers.specs.Listing.{verdict_line, class_line, class_lines, size_line, refusal_line_of, listing_text}
use Rattle.text.proofs.Texts.{decimal_few, decimal_most}
use Rattle.listing_lines.specs.Lines.{spaced_names}

-- parts of at most so many bytes each
pub join_short : (m n : ℕ) (f : ℕ → List ℕ) → ((i : ℕ) → i < n → length (f i) ≤ m) → length (join_below n f) ≤ m * n
join_short m zero f h = omega (arith, mul-zero m)
join_short m (suc n) f h =
    omega (arith, length-append (join_below n f) (f n), join_short m n f (λ i l. h i (omega arith)), h n (omega arith), mul-suc m n)

-- more parts are no shorter
pub join_longer : (f : ℕ → List ℕ) (m n : ℕ) → m ≤ n → length (join_below m f) ≤ length (join_below n f)
join_longer f zero zero l = omega arith
join_longer f (suc m) zero l = absurd (omega arith)
join_longer f m (suc n) l =
    elim (dec_lt m (suc n)) [
      | yes h ↦ omega (arith, length-append (join_below n f) (f n), join_longer f m n (omega arith))
      | no h ↦ let e : m ≡ suc n = omega arith in rw e (omega arith)
    ]

-- a class name is a state, so of two digits
pub name_short : (v : ℕ) → v ≤ most_states → length (space ++ decimal v) ≤ 3
name_short v h = omega (arith, decimal_few 2 v (omega arith) (omega arith))

pub names_short : (states : ℕ) (names : ℕ → ℕ) → ((x : ℕ) → x < states → names x ≤ most_states) → length (spaced_names states names) ≤ 3 * states
names_short states names h = join_short 3 states (λ x. space ++ decimal (names x)) (λ x l. name_short (names x) (h x l))

pub verdict_short : (v : Verdict) → length (verdict_word v) ≡ 5
verdict_short holds = omega arith
verdict_short fails = omega arith

pub stage_short : (s : Stage) → length (stage_word s) ≤ 6
stage_short marks = omega arith
stage_short merged = omega arith

pub verdict_line_short : (j : Judgement) → length (verdict_line j) ≤ 21
verdict_line_short j =
    omega (
      arith,
      length-append (verdict_word j.verdict) (space ++ (stage_word j.stage ++ line_end)),
      length-append (stage_word j.stage) line_end,
      verdict_short j.verdict,
      stage_short j.stage,
    )

-- "component 3 classes", the names and the line end
pub class_line_short : (i states : ℕ) (names : ℕ → ℕ) → states ≤ most_states → ((x : ℕ) → x < states → names x ≤ most_states)
    → length (class_line i states names) ≤ 39 + 3 * most_states
class_line_short i states names m h =
    omega (
      arith,
      length-append (decimal i) (classes_label ++ (spaced_names states names ++ line_end)),
      length-append (spaced_names states names) line_end,
      decimal_most i,
      names_short states names h,
    )

pub size_line_short : (m f : ℕ) → length (size_line m f) ≤ 52
size_line_short m f =
    omega (
      arith,
      length-append (decimal m) (of_label ++ (decimal f ++ line_end)),
      length-append (decimal f) line_end,
      decimal_most m,
      decimal_most f,
    )

pub refusal_line_short : (r : ℕ) → length (refusal_line_of r) ≤ 29
unfolding refusal_line_of
refusal_line_short r = omega (arith, length-append (decimal r) line_end, decimal_most r)

-- the class lines of n components
pub lines_short : (n : ℕ) (states : ℕ → ℕ) (names : ℕ → ℕ → ℕ) → ((i : ℕ) → i < n → states i ≤ most_states)
    → ((i x : ℕ) → i < n → x < states i → names i x ≤ most_states)
    → length (join_below n (λ i. class_line i (states i) (names i))) ≤ (39 + 3 * most_states) * n
lines_short n states names h k =
    join_short (39 + 3 * most_states) n (λ i. class_line i (states i) (names i)) (λ i l. class_line_short i (states i) (names i) (h i l) (λ x. k i x l))

lowest_most : (n : ℕ) (f : ℕ → Bool) → lowest n f ≤ n
lowest_most zero f = omega arith
lowest_most (suc n) f = by_cases (any_below n f) (lowest_most n f)
  where
    by_cases : (b : Bool) → lowest n f ≤ n → cond b (lowest n f) n ≤ suc n
    by_cases true h = omega arith
    by_cases false h = omega arith

-- what a reader promises of a file's contents
module _ (k : Contents) (p : Promised limits k) where
  abbrev I : Instrument
  I = instrument_of k

  pub few_components : components I ≤ limits.components
  few_components = omega (arith, count_is k, p.component_count.1)

  pub few_states : (i : ℕ) → i < components I → (table I i).states ≤ most_states
  few_states i l = rw (table_is k i) (promised_at limits k p i (omega (arith, count_is k))).states.1

  -- a class name is at most the number of states
  pub small_name : (i x : ℕ) → i < components I → classes_at I i x ≤ most_states
  small_name i x l = omega (arith, few_states i l, lowest_most (table I i).states (rel_b (table I i) (view_of I i) (root_formula I) x))

  -- the class lines, and the listing
  pub classes_length : length (class_lines I) ≤ limits.components * (39 + 3 * most_states)
  classes_length =
      omega (
        arith,
        lines_short (components I) (λ i. (table I i).states) (classes_at I) few_states (λ i x l m. small_name i x l),
        few_components,
      )

  pub listing_length : (j : Judgement) → length (listing_text I j) ≤ 21 + limits.components * (39 + 3 * most_states) + 52
  unfolding listing_text
  listing_length j =
      omega (
        arith,
        length-append (verdict_line j) (class_lines I ++ size_line (merged_size I) (full_count I)),
        length-append (class_lines I) (size_line (merged_size I) (full_count I)),
        verdict_line_short j,
        classes_length,
        size_line_short (merged_size I) (full_count I),
      )

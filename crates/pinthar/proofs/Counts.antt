-- How many entries an answer has at most, so how much room suffices for every file; and that the two parts of a number are the refusal's
-- number and the count.
use mathlib.Core.Path.{◌≡◌, refl, sym, subst}
use mathlib.Core.Bool.{Bool, true, false}
use mathlib.Core.List.{List, [], ◌∷◌}
use lib.Dec.{T, leb, leb→le}
use lib.ListN.{length}
use native.Mathlib.Omega.{arith}
use Prim.Native.Nat.{ℕ, ◌/◌, ◌%◌, ◌^◌, ◌≤◌}
use Rattle.meaning.specs.Instrument.{Instrument, components, table}
use Rattle.meaning.specs.File.Parser.{Got, found, fault}
use Rattle.meaning.specs.File.Number.{choose}
use Rattle.meaning.specs.File.Grammar.{Contents, instrument_of, read_file, limits, all_outs, most_states}
use Rattle.meaning.specs.File.Promise.{Promised}
use Rattle.meaning.specs.Reference.Answers.{list_below, join_below}
use Rattle.answers.specs.Buffers.{Outcome, refused, entries, outcome_number, fitting}
use Rattle.meaning.specs.Reference.Answers.{full_count, full_word, pass_word, fail_word, mark_words_of, classes_at, class_names_of, merged_size, merged_word}
use Rattle.meaning.proofs.Basic.Entries.{list_length}
use Rattle.meaning.proofs.File.Reads.{file_promised}
use Rattle.answers.specs.Outcomes.{Reply, given, denied, Judgement, judgement, verdict_of, after, within, outcome_count}
use Rattle.answers.specs.Outcomes.{full_outcome, mark_outcome, class_outcome, merged_outcome}
use Rattle.answers.specs.Listing.{listed, listing_text, listing_outcome}
use Rattle.listing_lines.proofs.Lengths.{join_short, few_components, few_states, listing_length}
use Rattle.pinthar.specs.Numbers.{outcome_code}

-- entries that are at most m
fitting_count : (room m : ℕ) (vs : List ℕ) → length vs ≤ m → outcome_count (fitting room vs) ≤ m
fitting_count room m vs h = go (leb (length vs) room)
  where
    go : (b : Bool) → outcome_count (choose b (entries vs) (refused 13)) ≤ m
    go true = h
    go false = omega arith

-- an entry for each state of a combination that is not too large
within_count : (size n room : ℕ) (f : ℕ → ℕ) → outcome_count (within size n (fitting room (list_below size f))) ≤ 4096
within_count size n room f = go (leb size 4096) refl
  where
    go : (b : Bool) → leb size 4096 ≡ b → outcome_count (choose b (fitting room (list_below size f)) (refused n)) ≤ 4096
    go true e = fitting_count room 4096 (list_below size f) (omega (arith, list_length size f, leb→le size 4096 (subst T (sym e) tt)))
    go false e = omega arith

-- the file is accepted or nothing is written
after_count : (file : List ℕ) (m : ℕ) (f : Instrument → Outcome) → ((k : Contents) → Promised limits k → outcome_count (f (instrument_of k)) ≤ m)
    → outcome_count (after (read_file file) f) ≤ m
after_count file m f h = go (read_file file) refl
  where
    go : (g : Got Contents) → read_file file ≡ g → outcome_count (after g f) ≤ m
    go (found k end) e = h k (file_promised file k end e)
    go (fault r) e = omega arith

marks_short : (k : Contents) → Promised limits k → length (mark_words_of (instrument_of k)) ≤ 192
marks_short k p =
    omega (arith, join_short 48 (components I) row_of (λ i l. omega (arith, join_short 2 (length I.nodes) (pair_of i) (λ j l. omega arith), p.node_count.1)), few_components k p)
  where
    I : Instrument
    I = instrument_of k

    pair_of : ℕ → ℕ → List ℕ
    pair_of i j = pass_word I i j ∷ fail_word I i j ∷ []

    row_of : ℕ → List ℕ
    row_of i = join_below (length I.nodes) (pair_of i)

names_short : (k : Contents) → Promised limits k → length (class_names_of (instrument_of k)) ≤ all_outs
names_short k p =
    omega (arith, join_short most_states (components I) row_of (λ i l. omega (arith, list_length (table I i).states (classes_at I i), few_states k p i l)), few_components k p)
  where
    I : Instrument
    I = instrument_of k

    row_of : ℕ → List ℕ
    row_of i = list_below (table I i).states (classes_at I i)

listed_count : (k : Contents) → Promised limits k → (room : ℕ) (r : Reply Judgement) → outcome_count (listed (instrument_of k) room r) ≤ 2048
listed_count k p room (given j) = fitting_count room 2048 (listing_text (instrument_of k) j) (omega (arith, listing_length k p j))
listed_count k p room (denied n) = omega arith

module _ (file : List ℕ) (room : ℕ) where
  pub full_count_lem : outcome_count (full_outcome file room) ≤ 4096
  unfolding full_outcome
  full_count_lem = after_count file 4096 _ (λ k p. within_count (full_count (instrument_of k)) 11 room (full_word (instrument_of k)))

  pub mark_count : outcome_count (mark_outcome file room) ≤ 192
  unfolding mark_outcome
  mark_count = after_count file 192 _ (λ k p. fitting_count room 192 (mark_words_of (instrument_of k)) (marks_short k p))

  pub class_count_lem : outcome_count (class_outcome file room) ≤ all_outs
  unfolding class_outcome
  class_count_lem = after_count file all_outs _ (λ k p. fitting_count room all_outs (class_names_of (instrument_of k)) (names_short k p))

  pub merged_count_lem : outcome_count (merged_outcome file room) ≤ 4096
  unfolding merged_outcome
  merged_count_lem = after_count file 4096 _ (λ k p. within_count (merged_size (instrument_of k)) 12 room (merged_word (instrument_of k)))

  pub listing_count : outcome_count (listing_outcome file room) ≤ 2048
  unfolding listing_outcome
  listing_count = after_count file 2048 _ (λ k p. listed_count k p room (judgement (verdict_of (instrument_of k))))

-- the upper 32 bits are the refusal's number, the lower 32 the count
pub parts : (o : Outcome) → outcome_count o ≤ 4096 → (outcome_code o / 2 ^ 32 ≡ outcome_number o) × (outcome_code o % 2 ^ 32 ≡ outcome_count o)
parts (refused r) h = (omega arith, omega arith)
parts (entries vs) h = (omega (arith, h), omega (arith, h))

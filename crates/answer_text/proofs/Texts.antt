-- Each question's text, from its outcome or from what was read.
use mathlib.Core.Path.{◌≡◌, refl, sym, ap, subst}
use mathlib.Core.Bool.{Bool, true, false}
use mathlib.Core.List.{List}
use lib.Dec.{T, leb, leb→le}
use lib.ListN.{length, drop, length-take}
use native.Mathlib.Omega.{arith}
use borrow.Author.Tests.{le-leb}
use Prim.Native.Nat.{ℕ, ◌+◌, ◌-◌, ◌*◌, ◌≤◌}
use Rattle.meaning.specs.File.Parser.{Got, found, fault}
use Rattle.meaning.specs.File.Number.{choose}
use Rattle.meaning.specs.File.Grammar.{Contents, instrument_of, limits, read_file}
use Rattle.meaning.specs.File.Promise.{Promised}
use Rattle.meaning.specs.File.Stretches.{Stretch, located, start_of, end_of}
use Rattle.meaning.specs.Reference.Answers.{list_below, full_count, full_word, full_words, merged_size, merged_word, merged_words}
use Rattle.answers.specs.Buffers.{refused, fitting}
use Rattle.meaning.proofs.Basic.Entries.{list_length}
use Rattle.meaning.proofs.File.Reads.{file_promised}
use Rattle.meaning.proofs.File.Limit.{located_end}
use Rattle.meaning.proofs.File.Faults.{located_faults}
use Rattle.cursor.specs.Answers.{number}
use Rattle.cursor.specs.declared.Refusal.{Refusal}
use Rattle.answers.specs.Outcomes.{Reply, given, denied, Judgement, judgement, verdict_of, after, within, full_outcome, merged_outcome, component_bytes_of}
use Rattle.answers.specs.Listing.{refusal_line_of, listed, listing_text, listing_outcome}
use Rattle.answers.specs.Lines.{words_line, hexadecimal_line}
use Rattle.answers.specs.Questions.{full, merged, listing, stretch}
use Rattle.answers.specs.Printed.{printed, text_after, text_within, listed_text, stretch_text}
use Rattle.answers.proofs.Numbers.{numbers}
use Rattle.reader.specs.Outcomes.{fault_number}
use Rattle.listing_lines.proofs.Lengths.{listing_length}
use Rattle.entry_queries.proofs.Answering.{number_some}
use Rattle.answer_text.specs.Settled.{text_bytes}
use Rattle.answer_text.proofs.Outcomes.{outcome_text, Numbered}

-- a buffer of 4,096 words has room for the words of every combination that is built
words_text : (size r : ℕ) (f : ℕ → ℕ)
    → text_within size r (words_line (list_below size f)) ≡ outcome_text words_line (within size r (fitting 4096 (list_below size f)))
words_text size r f = go (leb size 4096) refl
  where
    go : (b : Bool) → leb size 4096 ≡ b
        → choose b (words_line (list_below size f)) (refusal_line_of r) ≡ outcome_text words_line (choose b (fitting 4096 (list_below size f)) (refused r))
    go true e =
        let h : length (list_below size f) ≤ 4096 = omega (arith, list_length size f, leb→le size 4096 (subst T (sym e) tt)) in
        rw (le-leb (length (list_below size f)) 4096 h) refl
    go false e = refl

module _ (file : List ℕ) where
  pub full_text : printed full file ≡ outcome_text words_line (full_outcome file 4096)
  unfolding printed full_outcome
  full_text = go (read_file file)
    where
      go : (g : Got Contents) → text_after g (λ I. text_within (full_count I) 11 (words_line (full_words I)))
          ≡ outcome_text words_line (after g (λ I. within (full_count I) 11 (fitting 4096 (full_words I))))
      go (found k end) = words_text (full_count (instrument_of k)) 11 (full_word (instrument_of k))
      go (fault r) = refl

  pub full_numbered : Numbered (full_outcome file 4096)
  full_numbered r e = (numbers full file r (4096, e)).0

  pub merged_text : printed merged file ≡ outcome_text words_line (merged_outcome file 4096)
  unfolding printed merged_outcome
  merged_text = go (read_file file)
    where
      go : (g : Got Contents) → text_after g (λ I. text_within (merged_size I) 12 (words_line (merged_words I)))
          ≡ outcome_text words_line (after g (λ I. within (merged_size I) 12 (fitting 4096 (merged_words I))))
      go (found k end) = words_text (merged_size (instrument_of k)) 12 (merged_word (instrument_of k))
      go (fault r) = refl

  pub merged_numbered : Numbered (merged_outcome file 4096)
  merged_numbered r e = (numbers merged file r (4096, e)).0

  -- the listing has at most 2,048 bytes
  pub listing_text_lem : (room : ℕ) → 2048 ≤ room → printed listing file ≡ outcome_text (λ vs. vs) (listing_outcome file room)
  unfolding printed listing_outcome
  listing_text_lem room h = go (read_file file) refl
    where
      told : (k : Contents) → Promised limits k → (r : Reply Judgement) → listed_text (instrument_of k) r ≡ outcome_text (λ vs. vs) (listed (instrument_of k) room r)
      told k p (given j) = rw (le-leb (length (listing_text (instrument_of k) j)) room (omega (arith, listing_length k p j))) refl
      told k p (denied r) = refl

      go : (g : Got Contents) → read_file file ≡ g → text_after g (λ I. listed_text I (judgement (verdict_of I)))
          ≡ outcome_text (λ vs. vs) (after g (λ I. listed I room (judgement (verdict_of I))))
      go (found k end) e = told k (file_promised file k end e) (judgement (verdict_of (instrument_of k)))
      go (fault r) e = refl

  pub listing_numbered : (room : ℕ) → Numbered (listing_outcome file room)
  listing_numbered room r e = (numbers listing file r (room, e)).0

-- a component's bytes: refused
module _ (file : List ℕ) (c : ℕ) where
  pub stretch_refused : (cause : Refusal) → number cause ≡ fault_number (located file c) → printed (stretch c) file ≡ refusal_line_of (number cause)
  unfolding printed
  stretch_refused cause e = go (located file c) e
    where
      go : (g : Got Stretch) → number cause ≡ fault_number g → stretch_text g (component_bytes_of file c) ≡ refusal_line_of (number cause)
      go (found s end) e = absurd (number_some cause e)
      go (fault r) e = ap refusal_line_of (sym e)

  -- or handed back: no fault has number 0
  pub stretch_given : 0 ≡ fault_number (located file c) → printed (stretch c) file ≡ hexadecimal_line (component_bytes_of file c)
  unfolding printed
  stretch_given z = go (located file c) refl z
    where
      go : (g : Got Stretch) → located file c ≡ g → 0 ≡ fault_number g → stretch_text g (component_bytes_of file c) ≡ hexadecimal_line (component_bytes_of file c)
      go (found s end) e z = refl
      go (fault r) e z = absurd (omega (arith, (located_faults file c r e).0))

  -- its bytes in hexadecimal have room: they end within the bytes that settle every input
  pub stretch_short : (bytes : List ℕ) → bytes ≡ component_bytes_of file c → 2 * length bytes + 1 ≤ text_bytes
  stretch_short bytes b =
      let g = located file c in
      omega (arith, ap length b, length-take (end_of g - start_of g) (drop (start_of g) file), located_end file c)

-- The line `refused 14` is printed for no question about a file of bytes (document 02, 6/14).
use mathlib.Core.Path.{◌≡◌, refl, ap, sym, subst}
use mathlib.Core.Logic.{◌≢◌}
use mathlib.Core.Bool.{Bool, true, false, not, cond}
use mathlib.Core.List.{List, [], ◌∷◌, ◌++◌}
use lib.Dec.{T, T_not, eqb, eqb_refl, leb, ltb, ltb→lt}
use lib.ListN.{length, get_or, take, drop}
use lib.Seq.{get_or-drop}
use native.Mathlib.Omega.{arith}
use Prim.Native.Nat.{ℕ, zero, suc, ◌+◌, ◌-◌, ◌/◌, ◌%◌, ◌<◌}
use Rattle.meaning.specs.Instrument.{Instrument, components, table}
use Rattle.meaning.specs.Verdict.{Answer, Stage, Verdict, judged, oversized, holds, fails}
use Rattle.meaning.specs.File.Grammar.{Contents, instrument_of, read_file}
use Rattle.meaning.specs.File.Number.{choose}
use Rattle.meaning.specs.File.Parser.{Got, found, fault}
use Rattle.meaning.specs.File.Promise.{Within}
use Rattle.meaning.specs.File.Stretches.{Stretch, located, start_of, end_of}
use Rattle.meaning.specs.Reference.Answers.{classes_at, join_below, full_count, full_words, mark_words_of, merged_size, merged_words}
use Rattle.meaning.specs.Reference.Tests.{all_of}
use Rattle.meaning.proofs.Basic.Booleans.{and_l, and_r}
use Rattle.meaning.proofs.Basic.Bounded.{all_out}
use Rattle.meaning.proofs.File.Faults.{file_faults}
use Rattle.answers.specs.Outcomes.{Judgement, Reply, bytes_of, component_bytes_of, denied, given, judgement, lookup_reply, most_combined, verdict_of, verdict_reply}
use Rattle.answers.specs.Listing.{class_line, class_lines, decimal, digits_of, line_end, listing_text, most_digits, refusal_line_of}
use Rattle.answers.specs.Lines.{hexadecimal_byte, hexadecimal_line, judgement_line, lookup_line, mark_line_at, mark_lines, word_at, words_line}
use Rattle.answers.specs.Questions.{Question, full, marks, classes, merged, listing, verdict, stretch, lookup, unknown}
use Rattle.answers.specs.Printed.{printed, listed_text, stretch_text, text_after, text_within, usage_line}
use Rattle.answers.proofs.Numbers.{numbers}

-- a text that is empty or begins with another byte than "r"
abbrev Other : List ℕ → Type 0
Other [] = Unit {0}
Other (b ∷ l) = b ≢ 114

other_append : (l m : List ℕ) → Other l → Other m → Other (l ++ m)
other_append [] m h k = k
other_append (b ∷ l) m h k = h

other_join : (n : ℕ) (f : ℕ → List ℕ) → ((i : ℕ) → Other (f i)) → Other (join_below n f)
other_join zero f h = tt
other_join (suc n) f h = other_append (join_below n f) (f n) (other_join n f h) (h n)

other_cond : (b : Bool) (l m : List ℕ) → Other l → Other m → Other (cond b l m)
other_cond true l m h k = h
other_cond false l m h k = k

-- decimal words on a line
other_digits : (places v : ℕ) → Other (digits_of places v)
other_digits zero v = tt
other_digits (suc places) v =
    other_append (cond (ltb v 10) [] (digits_of places (v / 10))) ((48 + v % 10) ∷ [])
    (other_cond (ltb v 10) [] (digits_of places (v / 10)) tt (other_digits places (v / 10))) (λ e. absurd (omega (arith, e)))

other_word : (i w : ℕ) → Other (word_at i w)
unfolding decimal
other_word zero w = other_digits most_digits w
other_word (suc i) w = λ e. absurd (omega (arith, e))

other_words : (ws : List ℕ) → Other (words_line ws)
other_words ws =
    other_append (join_below (length ws) (λ i. word_at i (get_or ws i 0))) line_end
    (other_join (length ws) (λ i. word_at i (get_or ws i 0)) (λ i. other_word i (get_or ws i 0))) (λ e. absurd (omega (arith, e)))

-- bytes in hexadecimal
other_byte : (b : ℕ) → b < 256 → Other (hexadecimal_byte b)
other_byte b l = go (ltb (b / 16) 10)
  where
    go : (c : Bool) → cond c (48 + b / 16) (87 + b / 16) ≢ 114
    go true e = absurd (omega (arith, l, e))
    go false e = absurd (omega (arith, l, e))

other_bytes : (bytes : List ℕ) → ((i : ℕ) → get_or bytes i 0 < 256) → Other (hexadecimal_line bytes)
other_bytes bytes h =
    other_append (join_below (length bytes) (λ i. hexadecimal_byte (get_or bytes i 0))) line_end
    (other_join (length bytes) (λ i. hexadecimal_byte (get_or bytes i 0)) (λ i. other_byte (get_or bytes i 0) (h i))) (λ e. absurd (omega (arith, e)))

-- a list of bytes, and its parts
abbrev pub Bytes : List ℕ → Type 0
Bytes file = T (all_of (λ b. ltb b 256) file)

byte_at : (file : List ℕ) → Bytes file → (i : ℕ) → get_or file i 0 < 256
byte_at [] h i = omega arith
byte_at (b ∷ file) h zero = ltb→lt b 256 (and_l (ltb b 256) (all_of (λ b. ltb b 256) file) h)
byte_at (b ∷ file) h (suc i) = byte_at file (and_r (ltb b 256) (all_of (λ b. ltb b 256) file) h) i

taken_at : (n : ℕ) (l : List ℕ) → ((i : ℕ) → get_or l i 0 < 256) → (i : ℕ) → get_or (take n l) i 0 < 256
taken_at zero l h i = omega arith
taken_at (suc n) [] h i = omega arith
taken_at (suc n) (b ∷ l) h zero = h zero
taken_at (suc n) (b ∷ l) h (suc i) = taken_at n l (λ i. h (suc i)) i

part_at : (file : List ℕ) → Bytes file → (a n i : ℕ) → get_or (take n (drop a file)) i 0 < 256
part_at file h a n =
    taken_at n (drop a file) (λ i. subst (λ v. v < 256) (sym (get_or-drop a file i 0)) (byte_at file h (a + i)))

-- ---- another line than `refused 14`
abbrev Unlike : List ℕ → Type 0
Unlike l = l ≢ refusal_line_of 14

unlike_other : (l : List ℕ) → Other l → Unlike l
unfolding refusal_line_of decimal
unlike_other [] h e = absurd (omega (arith, ap length e))
unlike_other (b ∷ l) h e = h (ap (λ l. get_or l 0 0) e)

-- its tenth byte is "4"
unlike_line : (r : ℕ) → Within 1 13 r → Unlike (refusal_line_of r)
unfolding refusal_line_of decimal
unlike_line r w e =
    T_not (eqb (get_or (refusal_line_of r) 9 0) 52) (all_out 14 (λ r. not (eqb (get_or (refusal_line_of r) 9 0) 52)) tt r (omega (arith, w.1)))
    (subst (λ v. T (eqb v 52)) (sym (ap (λ l. get_or l 9 0) e)) (eqb_refl 52))

unlike_choose : (b : Bool) (l m : List ℕ) → Unlike l → Unlike m → Unlike (choose b l m)
unlike_choose true l m h k = h
unlike_choose false l m h k = k

module _ (file : List ℕ) where
  -- after the file's own faults
  unlike_after : (f : Instrument → List ℕ) → ((I : Instrument) → Unlike (f I)) → Unlike (text_after (read_file file) f)
  unlike_after f h = go (read_file file) refl
    where
      go : (g : Got Contents) → read_file file ≡ g → Unlike (text_after g f)
      go (found c end) e = h (instrument_of c)
      go (fault r) e = let w = file_faults file r e in unlike_line r (w.0, omega (arith, w.1))

  unlike_sized : (count : Instrument → ℕ) (r : ℕ) (words : Instrument → List ℕ) → Within 1 13 r
      → Unlike (text_after (read_file file) (λ I. text_within (count I) r (words_line (words I))))
  unlike_sized count r words w =
      unlike_after (λ I. text_within (count I) r (words_line (words I))) (λ I.
      unlike_choose (leb (count I) most_combined) (words_line (words I)) (refusal_line_of r) (unlike_other (words_line (words I)) (other_words (words I)))
      (unlike_line r w))

  unlike_lookup : (s0 s1 s2 s3 : ℕ) → Unlike (lookup_line (lookup_reply file (s0 ∷ s1 ∷ s2 ∷ s3 ∷ [])))
  unlike_lookup s0 s1 s2 s3 = go (lookup_reply file (s0 ∷ s1 ∷ s2 ∷ s3 ∷ [])) refl
    where
      go : (a : Reply Bool) → lookup_reply file (s0 ∷ s1 ∷ s2 ∷ s3 ∷ []) ≡ a → Unlike (lookup_line a)
      go (given true) e = unlike_other (lookup_line (given true)) (λ e. absurd (omega (arith, e)))
      go (given false) e = unlike_other (lookup_line (given false)) (λ e. absurd (omega (arith, e)))
      go (denied r) e = unlike_line r (numbers (lookup s0 s1 s2 s3) file r e)

  unlike_verdict : Unlike (judgement_line (verdict_reply file))
  unlike_verdict = go (verdict_reply file) refl
    where
      told : (v : Verdict) (g : Stage) → Unlike (judgement_line (given (record { verdict = v; stage = g })))
      told holds g = unlike_other (judgement_line (given (record { verdict = holds; stage = g }))) (λ e. absurd (omega (arith, e)))
      told fails g = unlike_other (judgement_line (given (record { verdict = fails; stage = g }))) (λ e. absurd (omega (arith, e)))

      go : (a : Reply Judgement) → verdict_reply file ≡ a → Unlike (judgement_line a)
      go (given j) e = told j.verdict j.stage
      go (denied r) e = unlike_line r (numbers verdict file r e)

  unlike_stretch : Bytes file → (c : ℕ) → Unlike (stretch_text (located file c) (component_bytes_of file c))
  unlike_stretch h c = go (located file c) refl
    where
      go : (g : Got Stretch) → located file c ≡ g → Unlike (stretch_text g (bytes_of file g))
      go (found s end) e =
          let bytes = bytes_of file (found s end) in
          unlike_other (hexadecimal_line bytes) (other_bytes bytes (part_at file h (start_of (found s end)) (end_of (found s end) - start_of (found s end))))
      go (fault r) e = unlike_line r (numbers (stretch c) file r e)

unlike_listed : (I : Instrument) (a : Answer) → Unlike (listed_text I (judgement a))
unfolding listing_text
unlike_listed I (judged v g) = unlike_other (listing_text I (record { verdict = v; stage = g })) (λ e. absurd (omega (arith, e)))
unlike_listed I oversized = unlike_line 12 (omega arith, omega arith)

-- REQUEST 6/14
pub never_printed : (q : Question) (file : List ℕ) → Bytes file → printed q file ≢ refusal_line_of 14
unfolding printed usage_line
never_printed full file h = unlike_sized file full_count 11 full_words (omega arith, omega arith)
never_printed marks file h =
    unlike_after file (λ I. mark_lines (length I.nodes) (mark_words_of I)) (λ I.
    unlike_other (mark_lines (length I.nodes) (mark_words_of I)) (other_join (length (mark_words_of I) / 2) (mark_line_at (length I.nodes) (mark_words_of I)) (λ j e. absurd (omega (arith, e)))))
never_printed classes file h =
    unlike_after file class_lines (λ I.
    unlike_other (class_lines I) (other_join (components I) (λ i. class_line i (table I i).states (classes_at I i)) (λ i e. absurd (omega (arith, e)))))
never_printed merged file h = unlike_sized file merged_size 12 merged_words (omega arith, omega arith)
never_printed listing file h = unlike_after file (λ I. listed_text I (judgement (verdict_of I))) (λ I. unlike_listed I (verdict_of I))
never_printed verdict file h = unlike_verdict file
never_printed (stretch c) file h = unlike_stretch file h c
never_printed (lookup s0 s1 s2 s3) file h = unlike_lookup file s0 s1 s2 s3
never_printed unknown file h = unlike_other usage_line (λ e. absurd (omega (arith, e)))

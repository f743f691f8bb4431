-- How long the words and lines are.
use mathlib.Core.Path.{◌≡◌, refl}
use mathlib.Core.Bool.{Bool, true, false}
use mathlib.Core.List.{List, ◌++◌}
use lib.ListN.{length, get_or, length-append}
use native.Mathlib.Omega.{arith}
use Prim.Native.Nat.{ℕ, zero, suc, ◌+◌, ◌*◌, ◌/◌, ◌%◌, ◌≤◌}
use Rattle.meaning.specs.Reference.Answers.{join_below}
use Rattle.meaning.proofs.Basic.Entries.{join_length}
use Rattle.answers.specs.Outcomes.{Reply, given, denied, Judgement}
use Rattle.answers.specs.Listing.{decimal, space, line_end, stage_word, verdict_word}
use Rattle.answers.specs.Lines.{word_at, node_label, pass_label, fail_label, mark_line, mark_line_at, mark_lines, words_line, hexadecimal_line}
use Rattle.answers.specs.Lines.{hexadecimal_byte, truth_word, lookup_line, judgement_line}
use Rattle.text.proofs.Texts.{decimal_most}
use Rattle.listing_lines.proofs.Lengths.{join_short, verdict_short, stage_short, refusal_line_short}

-- a space and the digits
word_short : (i w : ℕ) → length (word_at i w) ≤ 21
word_short zero w = omega (arith, decimal_most w)
word_short (suc i) w = omega (arith, decimal_most w)

-- 21 bytes a word, and the line end
pub words_short : (ws : List ℕ) → length (words_line ws) ≤ 21 * length ws + 1
words_short ws =
    omega (
      arith,
      length-append (join_below (length ws) (λ i. word_at i (get_or ws i 0))) line_end,
      join_short 21 (length ws) (λ i. word_at i (get_or ws i 0)) (λ i l. word_short i (get_or ws i 0)),
    )

mark_short : (c k pass fail : ℕ) → length (mark_line c k pass fail) ≤ 109
mark_short c k pass fail =
    omega (
      arith,
      length-append (decimal c) (node_label ++ (decimal k ++ (pass_label ++ (decimal pass ++ (fail_label ++ (decimal fail ++ line_end)))))),
      length-append (decimal k) (pass_label ++ (decimal pass ++ (fail_label ++ (decimal fail ++ line_end)))),
      length-append (decimal pass) (fail_label ++ (decimal fail ++ line_end)),
      length-append (decimal fail) line_end,
      decimal_most c,
      decimal_most k,
      decimal_most pass,
      decimal_most fail,
    )

pub marks_short : (nodes : ℕ) (ws : List ℕ) → length (mark_lines nodes ws) ≤ 109 * (length ws / 2)
marks_short nodes ws =
    join_short 109 (length ws / 2) (mark_line_at nodes ws) (λ j l. mark_short (j / nodes) (j % nodes) (get_or ws (2 * j) 0) (get_or ws (2 * j + 1) 0))

-- 2 bytes a byte, and the line end
digits_length : (bytes : List ℕ) → length (join_below (length bytes) (λ i. hexadecimal_byte (get_or bytes i 0))) ≡ 2 * length bytes
digits_length bytes = join_length 2 (length bytes) (λ i. hexadecimal_byte (get_or bytes i 0)) (λ i l. refl)

pub hexadecimal_length : (bytes : List ℕ) → length (hexadecimal_line bytes) ≡ 2 * length bytes + 1
hexadecimal_length bytes =
    omega (arith, length-append (join_below (length bytes) (λ i. hexadecimal_byte (get_or bytes i 0))) line_end, digits_length bytes)

-- a line alone
truth_short : (b : Bool) → length (truth_word b) ≤ 5
truth_short true = omega arith
truth_short false = omega arith

pub lookup_line_short : (r : Reply Bool) → length (lookup_line r) ≤ 29
lookup_line_short (given b) = omega (arith, length-append (truth_word b) line_end, truth_short b)
lookup_line_short (denied r) = refusal_line_short r

pub judgement_line_short : (r : Reply Judgement) → length (judgement_line r) ≤ 29
judgement_line_short (given j) =
    omega (
      arith,
      length-append (verdict_word j.verdict) (space ++ (stage_word j.stage ++ line_end)),
      length-append (stage_word j.stage) line_end,
      verdict_short j.verdict,
      stage_short j.stage,
    )
judgement_line_short (denied r) = refusal_line_short r

-- The text of marks and classes, from what was read.
use mathlib.Core.Path.{◌≡◌, sym, ap}
use mathlib.Core.List.{List}
use lib.ListN.{length}
use Prim.Native.Nat.{ℕ}
use Rattle.std.specs.Prelude.{Err}
use Rattle.meaning.specs.File.Parser.{found}
use Rattle.meaning.specs.File.Grammar.{Contents, instrument_of, read_file}
use Rattle.meaning.specs.Reference.Answers.{mark_words_of}
use Rattle.cursor.specs.Answers.{number}
use Rattle.cursor.specs.declared.Refusal.{Refusal}
use Rattle.instrument.specs.declared.Outline.{Outline}
use Rattle.reader.specs.Outcomes.{Tells}
use Rattle.answers.specs.Listing.{refusal_line_of, class_lines}
use Rattle.answers.specs.Lines.{mark_lines}
use Rattle.answers.specs.Questions.{marks, classes}
use Rattle.answers.specs.Printed.{printed, text_after}
use Rattle.entry_queries.proofs.Answering.{refused_fault}

module _ (file : List ℕ) where
  pub marks_refused : (cause : Refusal) → Tells {A = Outline} (Err cause) (read_file file) → refusal_line_of (number cause) ≡ printed marks file
  unfolding printed
  marks_refused cause h = sym (ap (λ g. text_after g (λ I. mark_lines (length I.nodes) (mark_words_of I))) (refused_fault (read_file file) cause h))

  pub marks_given : (k : Contents) (end : ℕ) → read_file file ≡ found k end
      → mark_lines (length k.nodes) (mark_words_of (instrument_of k)) ≡ printed marks file
  unfolding printed
  marks_given k end e = sym (ap (λ g. text_after g (λ I. mark_lines (length I.nodes) (mark_words_of I))) e)

  pub classes_refused : (cause : Refusal) → Tells {A = Outline} (Err cause) (read_file file) → refusal_line_of (number cause) ≡ printed classes file
  unfolding printed
  classes_refused cause h = sym (ap (λ g. text_after g class_lines) (refused_fault (read_file file) cause h))

  pub classes_given : (k : Contents) (end : ℕ) → read_file file ≡ found k end → class_lines (instrument_of k) ≡ printed classes file
  unfolding printed
  classes_given k end e = sym (ap (λ g. text_after g class_lines) e)

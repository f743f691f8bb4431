-- The text that is printed for a question about the bytes of a file: the lines of its answer, the one line of its refusal, or how to ask where the
-- question is unknown. Each line ends with byte 10.
use Rattle.std.specs.Prelude.{List, [], ◌∷◌, ◌++◌, leb, length, ℕ}
use Rattle.meaning.specs.Instrument.{Instrument}
use Rattle.meaning.specs.File.Parser.{Got, found, fault}
use Rattle.meaning.specs.File.Number.{choose}
use Rattle.meaning.specs.File.Grammar.{Contents, instrument_of, read_file}
use Rattle.meaning.specs.File.Stretches.{Stretch, located}
use Rattle.meaning.specs.Reference.Answers.{full_count, full_words, mark_words_of, merged_size, merged_words}
use Rattle.answers.specs.Outcomes.{Reply, given, denied, Judgement, judgement, verdict_of, most_combined, lookup_reply, verdict_reply, component_bytes_of}
use Rattle.answers.specs.Listing.{line_end, refusal_line_of, class_lines, listing_text}
use Rattle.answers.specs.Lines.{words_line, mark_lines, hexadecimal_line, lookup_line, judgement_line}
use Rattle.answers.specs.Questions.{Question, full, marks, classes, merged, listing, verdict, stretch, lookup, unknown}
use Rattle.answers.specs.Questions.{word_full, word_marks, word_classes, word_merged, word_listing, word_lookup, word_verdict, word_stretch}

-- the text for the instrument of an accepted file, else the line of the file's first fault
abbrev pub text_after : Got Contents → (Instrument → List ℕ) → List ℕ
text_after (found c end) f = f (instrument_of c)
text_after (fault r) f = refusal_line_of r

-- the text that a combination of so many states allows, else the line of its refusal
abbrev pub text_within : ℕ → ℕ → List ℕ → List ℕ
text_within size r text = choose (leb size most_combined) text (refusal_line_of r)

-- the listing with this verdict, or the verdict's refusal
abbrev pub listed_text : Instrument → Reply Judgement → List ℕ
listed_text I (given j) = listing_text I j
listed_text I (denied r) = refusal_line_of r

-- the bytes of a component's own stretch, or the refusal
abbrev pub stretch_text : Got Stretch → List ℕ → List ℕ
stretch_text (found s end) bytes = hexadecimal_line bytes
stretch_text (fault r) bytes = refusal_line_of r

-- "usage: query ", " | ", " A B C D", " C", " < FILE"
abbrev pub usage_label : List ℕ
usage_label = 117 ∷ 115 ∷ 97 ∷ 103 ∷ 101 ∷ 58 ∷ 32 ∷ 113 ∷ 117 ∷ 101 ∷ 114 ∷ 121 ∷ 32 ∷ []

abbrev pub bar : List ℕ
bar = 32 ∷ 124 ∷ 32 ∷ []

abbrev pub state_label : List ℕ
state_label = 32 ∷ 65 ∷ 32 ∷ 66 ∷ 32 ∷ 67 ∷ 32 ∷ 68 ∷ []

abbrev pub number_label : List ℕ
number_label = 32 ∷ 67 ∷ []

abbrev pub file_label : List ℕ
file_label = 32 ∷ 60 ∷ 32 ∷ 70 ∷ 73 ∷ 76 ∷ 69 ∷ []

-- "usage: query full | marks | classes | merged | listing | lookup A B C D | verdict | stretch C < FILE"
unfoldable pub usage_line : List ℕ
usage_line =
    usage_label ++ (word_full ++ (bar ++ (word_marks ++ (bar ++ (word_classes ++ (bar ++ (word_merged ++ (bar ++ (word_listing
    ++ (bar ++ (word_lookup ++ (state_label ++ (bar ++ (word_verdict ++ (bar ++ (word_stretch ++ (number_label ++ (file_label ++ line_end))))))))))))))))))

-- the text for a question about a file
unfoldable pub printed : Question → List ℕ → List ℕ
printed full file = text_after (read_file file) (λ I. text_within (full_count I) 11 (words_line (full_words I)))
printed marks file = text_after (read_file file) (λ I. mark_lines (length I.nodes) (mark_words_of I))
printed classes file = text_after (read_file file) class_lines
printed merged file = text_after (read_file file) (λ I. text_within (merged_size I) 12 (words_line (merged_words I)))
printed listing file = text_after (read_file file) (λ I. listed_text I (judgement (verdict_of I)))
printed verdict file = judgement_line (verdict_reply file)
printed (stretch c) file = stretch_text (located file c) (component_bytes_of file c)
printed (lookup s0 s1 s2 s3) file = lookup_line (lookup_reply file (s0 ∷ s1 ∷ s2 ∷ s3 ∷ []))
printed unknown file = usage_line

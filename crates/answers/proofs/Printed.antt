-- What is printed: the first bytes of a file, so many as are read (`listing_bytes`), settle every text.
use mathlib.Core.Path.{◌≡◌, refl, ap, ap₂}
use mathlib.Core.List.{List, [], ◌∷◌}
use lib.ListN.{length, take}
use Prim.Native.Nat.{ℕ}
use Rattle.meaning.specs.File.Promise.{listing_bytes}
use Rattle.meaning.specs.Reference.Answers.{full_count, full_words, mark_words_of, merged_size, merged_words}
use Rattle.meaning.proofs.File.Limit.{located_limit}
use Rattle.answers.specs.Outcomes.{judgement, verdict_of}
use Rattle.answers.specs.Listing.{class_lines}
use Rattle.answers.specs.Lines.{words_line, mark_lines, lookup_line, judgement_line}
use Rattle.answers.specs.Questions.{Question, full, marks, classes, merged, listing, verdict, stretch, lookup, unknown}
use Rattle.answers.specs.Printed.{printed, text_after, text_within, listed_text, stretch_text}
use Rattle.answers.proofs.Limit.{settles}
use Rattle.answers.proofs.Settled.{lookup_settled, verdict_settled, component_settled}

pub text_settled : (q : Question) (file : List ℕ) → printed q (take listing_bytes file) ≡ printed q file
unfolding printed
text_settled full file = settles (λ g. text_after g (λ I. text_within (full_count I) 11 (words_line (full_words I)))) file
text_settled marks file = settles (λ g. text_after g (λ I. mark_lines (length I.nodes) (mark_words_of I))) file
text_settled classes file = settles (λ g. text_after g class_lines) file
text_settled merged file = settles (λ g. text_after g (λ I. text_within (merged_size I) 12 (words_line (merged_words I)))) file
text_settled listing file = settles (λ g. text_after g (λ I. listed_text I (judgement (verdict_of I)))) file
text_settled verdict file = ap judgement_line (verdict_settled file)
text_settled (stretch c) file = ap₂ stretch_text (located_limit file c) (component_settled file c)
text_settled (lookup s0 s1 s2 s3) file = ap lookup_line (lookup_settled file (s0 ∷ s1 ∷ s2 ∷ s3 ∷ []))
text_settled unknown file = refl

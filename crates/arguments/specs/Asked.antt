-- The question that an answer of `question_of` stands for.
use Rattle.answers.specs.Questions as asked
use Rattle.arguments.specs.declared.question.Question.{Question}
use Rattle.arguments.specs.declared.question.Question.TheVariants.{Full, Marks, Classes, Merged, Listing, Verdict, Stretch, Lookup, Unknown}

abbrev pub asks : Question → asked.Question
asks Full = asked.full
asks Marks = asked.marks
asks Classes = asked.classes
asks Merged = asked.merged
asks Listing = asked.listing
asks Verdict = asked.verdict
asks (Stretch c) = asked.stretch c
asks (Lookup s0 s1 s2 s3) = asked.lookup s0 s1 s2 s3
asks Unknown = asked.unknown

use Rattle.std.proofs.Common.{sym, ap, subst, take, ◌+◌, ◌∙◌}
use Rattle.answers.specs.Questions.{about, asked_by, question_of}
use Rattle.arguments.specs.Words.{Reads, words_from}
use Rattle.arguments.proofs.Words.{first_word}
use Rattle.arguments.proofs.Questions.{asked_given, asked_unfit}
use Rattle.arguments.proofs.question.question_of.Goals as goal

pub returns-in-Some : goal.returns-in-Some
unfolding question_of
returns-in-Some c =
    let line = c.args.line.now in
    let end = c.word_end-end.result in
    let read = subst (λ r. Reads r (words_from line (end + 1))) c.in-Some.is c.read_numbers.ensures in
    record {
      answer =
          c.about_numbers.ensures ∙ ap (about (take end line)) c.as_slice.ensures.value
          ∙ sym (ap asked_by (first_word line end c.word_end-end.ensures) ∙ asked_given (take end line) _ _ read);
    }

pub returns-in-None : goal.returns-in-None
unfolding question_of
returns-in-None c =
    let line = c.args.line.now in
    let end = c.word_end-end.result in
    let read = subst (λ r. Reads r (words_from line (end + 1))) c.in-None.is c.read_numbers.ensures in
    record { answer = sym (ap asked_by (first_word line end c.word_end-end.ensures) ∙ asked_unfit (take end line) _ read) }

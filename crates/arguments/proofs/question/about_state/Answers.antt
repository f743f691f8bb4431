use Rattle.std.proofs.Common.{◌≡◌, refl, sym, ◌∙◌, true, false}
use Rattle.answers.specs.Questions.{same_bytes, word_lookup}
use Rattle.arguments.proofs.question.about_state.Goals as goal

pub returns-then-same : goal.returns-then-same
returns-then-same c =
    let e : same_bytes c.args.word.now word_lookup ≡ true = sym c.same.ensures ∙ c.if-same.true in
    rw e refl

pub returns : goal.returns
returns c =
    let e : same_bytes c.args.word.now word_lookup ≡ false = sym c.same.ensures ∙ c.if-same.false in
    rw e refl

-- The text of the first bytes of an input is the text of the whole input.
use mathlib.Core.Path.{◌≡◌, ap, ◌∙◌}
use mathlib.Core.List.{List}
use Prim.Native.Nat.{ℕ}
use Rattle.meaning.specs.File.Promise.{listing_bytes}
use Rattle.answers.specs.Questions.{question_of}
use Rattle.answers.specs.Printed.{printed}
use Rattle.answers.proofs.Printed.{text_settled}
use Rattle.answer_text.specs.Settled.{Settled}

pub settled : (line file text : List ℕ) → text ≡ printed (question_of line) file → Settled listing_bytes line file text
settled line file text e =
    record {
      longer = λ all h. e ∙ ap (printed (question_of line)) h ∙ text_settled (question_of line) all;
    }

-- The answers to the lookup and the verdict, in document 01's words.
use Rattle.std.specs.Prelude.{Bool, Result, Ok, Err}
use Rattle.cursor.specs.Answers.{number}
use Rattle.cursor.specs.declared.Refusal.{Refusal}
use Rattle.answers.specs.Outcomes as answers
use Rattle.answers.specs.Outcomes.{Reply, given, denied}
use Rattle.judgement.specs.declared.Judgement.{Judgement}
use Rattle.judgement.specs.Judged.{judgement_of}

-- the root's truth, or the refusal's number
abbrev pub looked_reply : Result Bool Refusal → Reply Bool
looked_reply (Ok b) = given b
looked_reply (Err r) = denied (number r)

-- the verdict with its stage, or the refusal's number
abbrev pub judged_reply : Result Judgement Refusal → Reply answers.Judgement
judged_reply (Ok j) = given (judgement_of j)
judged_reply (Err r) = denied (number r)

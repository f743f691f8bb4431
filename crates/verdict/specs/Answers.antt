-- What each answer of the code is in document 01's words (Verdict and listing; Refused, number 12).
use Rattle.std.specs.Prelude.{false, leb, Option, Some, None, Result, Ok, Err}
use Rattle.meaning.specs.Instrument.{Instrument}
use Rattle.meaning.specs.Reference.Answers.{merged_size}
use Rattle.meaning.specs.Reference.Tests.{all_of}
use Rattle.meaning.specs.Reference.Verdict.{staged}
use Rattle.answers.specs.Outcomes.{looked_up, most_combined}
use Rattle.meaning.specs.Verdict.{Answer, judged, oversized}
use Rattle.judgement.specs.declared.Judgement.{Judgement}
use Rattle.judgement.specs.Judged.{verdict_of, stage_of}
use Rattle.verdict.specs.declared.Oversized.{Oversized}

-- by marks or by merged words: holds, or fails; 12
abbrev pub answer_of : Result Judgement Oversized → Answer
answer_of (Ok j) = judged (verdict_of j.holds) (stage_of j.stage)
answer_of (Err o) = oversized

-- what the marks tell, or else another answer
abbrev pub or_else : Option Judgement → Answer → Answer
or_else (Some j) a = answer_of (Ok j)
or_else None a = a

-- the answer where marks do not decide: 12, or whether every start is answered with true in the merged words
abbrev pub merged_stage : Instrument → Answer
merged_stage I = staged false false (leb (merged_size I) most_combined) (all_of (looked_up I) I.starts)

-- The verdict with its stage that a judgement of the code stands for (document 01, Verdict and listing).
use Rattle.std.specs.Prelude.{Bool, true, false}
use Rattle.meaning.specs.Verdict as meaning
use Rattle.meaning.specs.Verdict.{Verdict, holds, fails, marks, merged}
use Rattle.answers.specs.Outcomes as answers
use Rattle.judgement.specs.declared.Stage.{Stage}
use Rattle.judgement.specs.declared.Stage.TheVariants.{Marks, Merged}
use Rattle.judgement.specs.declared.Judgement.{Judgement}

abbrev pub verdict_of : Bool → Verdict
verdict_of true = holds
verdict_of false = fails

abbrev pub stage_of : Stage → meaning.Stage
stage_of Marks = marks
stage_of Merged = merged

abbrev pub judgement_of : Judgement → answers.Judgement
judgement_of j = record { verdict = verdict_of j.holds; stage = stage_of j.stage }

use Rattle.std.proofs.Common.{◌∙◌}
use Rattle.answer_text.proofs.Outcomes.{put_first}
use Rattle.answer_text.proofs.entries.instrument_classes.Goals as goal

pub class_text-requires : goal.class_text-requires
class_text-requires c = let (k, d) = c.args.t.described in (_, k, d, c.all_root_classes-names.ensures k d)

pub returns : goal.returns
returns c k d =
    put_first _ c.requires c.word.ensures ∙ c.as_slice.ensures.value ∙ c.class_text.ensures _ k d (c.all_root_classes-names.ensures k d)

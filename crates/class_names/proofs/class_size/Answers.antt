use Rattle.std.proofs.Common.{◌∙◌}
use Rattle.class_names.specs.Names as names
use Rattle.class_names.proofs.class_size.Goals as goal

pub size-requires : goal.size-requires
size-requires c = tt

pub returns : goal.returns
unfolding names.class_size
returns c = c.size.ensures ∙ rw c.member_word.ensures

use Rattle.std.proofs.Common.{ap, ◌∙◌}
use Rattle.meaning.specs.File.Grammar.{instrument_of}
use Rattle.instrument.specs.Delivered.{delivered}
use Rattle.instrument.specs.Roots.{listed_roots}
use Rattle.instrument.proofs.LastRoot.{last_good, last_listed, last_node}
use Rattle.partitions.specs.Classes.{classes_of}
use Rattle.root_classes.proofs.all_root_classes.Goals as goal

pub overflow_sub-t : goal.overflow_sub-t
overflow_sub-t c =
    last_node (delivered c.args.t) c.args.t.described.0 c.args.t.described.1

pub all_classes-requires : goal.all_classes-requires
all_classes-requires c =
    rw c.one-last.ensures (last_good (delivered c.args.t) c.args.t.described.0 c.args.t.described.1)

pub returns : goal.returns
returns c k d =
    c.all_classes.ensures k d ∙ ap (classes_of (instrument_of k)) (ap listed_roots c.one-last.ensures ∙ last_listed (delivered c.args.t) k d)

use Rattle.std.proofs.Common.{ap, ◌∙◌}
use Rattle.meaning.specs.File.Grammar.{instrument_of}
use Rattle.instrument.specs.Delivered.{delivered}
use Rattle.instrument.specs.Roots.{listed_roots}
use Rattle.instrument.proofs.LastRoot.{last_good, last_listed, last_node}
use Rattle.meaning.specs.Roots.{roots_class_names}
use Rattle.meaning.proofs.Roots.{root_entries}
use Rattle.answers.specs.Buffers.{entries, lent_after}
use Rattle.root_classes.proofs.write_root_classes.Goals as goal

pub overflow_sub-t : goal.overflow_sub-t
overflow_sub-t c =
    last_node (delivered c.args.t) c.args.t.described.0 c.args.t.described.1

pub write_classes-requires : goal.write_classes-requires
write_classes-requires c =
    (rw c.one-alone.ensures (last_good (delivered c.args.t) c.args.t.described.0 c.args.t.described.1), c.requires)

pub returns : goal.returns
returns c =
    λ k d.
    c.write_classes.ensures k d
    ∙ ap (λ ws. lent_after (entries ws) c.args.out.now)
    (ap (roots_class_names (instrument_of k)) (ap listed_roots c.one-alone.ensures ∙ last_listed (delivered c.args.t) k d) ∙ root_entries (instrument_of k))

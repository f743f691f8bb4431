use Rattle.std.proofs.Common.{ap, ◌∙◌}
use Rattle.meaning.specs.File.Grammar.{instrument_of}
use Rattle.meaning.specs.Roots.{roots_words}
use Rattle.answers.specs.Buffers.{entries, lent_after}
use Rattle.instrument.specs.Delivered.{delivered}
use Rattle.instrument.specs.Roots.{listed_roots}
use Rattle.instrument.proofs.LastRoot.{last_node}
use Rattle.root_words.proofs.LastNode.{last_prepared, last_room, last_words}
use Rattle.root_words.proofs.write_root_words.Goals as goal

pub overflow_sub-t : goal.overflow_sub-t
overflow_sub-t c =
    last_node (delivered c.args.t) c.requires.contents c.requires.prepared.describes

pub write_merged-requires : goal.write_merged-requires
write_merged-requires c = rw c.one-root.ensures (last_room c.requires)

pub returns : goal.returns
returns c =
    λ k p.
    let d = p.describes in
    c.write_merged.ensures k (rw c.one-root.ensures (last_prepared (delivered c.args.t) k d p))
    ∙ ap (λ r. lent_after (entries (roots_words (instrument_of k) (listed_roots r))) c.args.out.now) c.one-root.ensures
    ∙ last_words (delivered c.args.t) k d c.args.out.now

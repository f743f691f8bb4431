use Rattle.std.proofs.Common.{rules}
use Rattle.text.proofs.Appending.{appending_room, appending_more}
use Rattle.listing_lines.proofs.class_lines.Goals as goal
use Rattle.listing_lines.proofs.class_lines.Invariants.{piece}

pub component_line-requires : goal.component_line-requires
component_line-requires g c = (
  search rules,
  (
    search rules,
    c.requires.components_le_components.1 c.loop-c.c c.loop-c-test.true,
    appending_room (piece c.args.states c.args.names) c.args.out.now c.args.components _ c.loop-c.c c.loop-c.out c.requires.room c.loop-c-test.true c.loop-c.invariant,
  ),
)

pub loop-c-preserved : goal.loop-c-preserved
loop-c-preserved g c =
    appending_more (piece c.args.states c.args.names) c.args.out.now c.loop-c.c c.loop-c.out c.component_line.new.out c.loop-c.invariant c.component_line.ensures

use Rattle.std.proofs.Common.{rules, length}
use Rattle.text.proofs.Appending.{appending_room}
use Rattle.listing_lines.proofs.spaced_names.Goals as goal
use Rattle.listing_lines.proofs.spaced_names.Invariants.{piece}

pub spaced_name-requires : goal.spaced_name-requires
spaced_name-requires g c =
    let names = c.args.names.now in
    (search rules, appending_room (piece names) c.args.out.now (length names) _ c.loop-name.name-index c.loop-name.out c.requires c.loop-name-test.true c.loop-name.invariant)

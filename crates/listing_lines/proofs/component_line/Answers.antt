use Rattle.std.proofs.Common.{rules}
use Rattle.text.proofs.Appending.{room_same}
use Rattle.listing_lines.proofs.Names.{line_front}
use Rattle.listing_lines.proofs.component_line.Goals as goal

pub class_line-requires : goal.class_line-requires
class_line-requires g c =
    let same = line_front c.args.c c.args.states c.args.names (search rules) in
    (search rules, room_same _ same c.requires.2)

pub returns : goal.returns
returns g c =
    let same = line_front c.args.c c.args.states c.args.names (search rules) in
    rw (← same) c.class_line.ensures

use Rattle.std.proofs.Common.{rules, length}
use Rattle.answers.specs.Listing.{line_end}
use Rattle.meaning.specs.Reference.Answers.{join_below}
use Rattle.text.proofs.Appending.{appending_room, room_first}
use Rattle.lines.proofs.hexadecimal_line.Goals as goal
use Rattle.lines.proofs.hexadecimal_line.Invariants.{piece}

pub byte_text-requires : goal.byte_text-requires
byte_text-requires g c =
    let bytes = c.args.bytes.now in
    let room = room_first (join_below (length bytes) (piece bytes)) line_end c.args.out.now c.requires in
    (search rules, appending_room (piece bytes) c.args.out.now (length bytes) _ c.loop-b.b-index c.loop-b.out room c.loop-b-test.true c.loop-b.invariant)

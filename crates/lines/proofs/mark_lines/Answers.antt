use Rattle.std.proofs.Common.{rules, length, ◌/◌}
use Rattle.answers.specs.Lines.{mark_line_at}
use Rattle.text.proofs.Appending.{appending_room}
use Rattle.lines.proofs.mark_lines.Goals as goal

pub mark_text-requires : goal.mark_text-requires
mark_text-requires g c =
    let marks = c.args.marks.now in
    (search rules, appending_room (mark_line_at c.args.nodes marks) c.args.out.now (length marks / 2) _ c.loop-j.j c.loop-j.out c.requires.1 c.loop-j-test.true c.loop-j.invariant)

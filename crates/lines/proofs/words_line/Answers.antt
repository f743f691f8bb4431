use Rattle.std.proofs.Common.{rules, length}
use Rattle.answers.specs.Listing.{line_end}
use Rattle.meaning.specs.Reference.Answers.{join_below}
use Rattle.text.proofs.Appending.{appending_room, appending_more, room_first}
use Rattle.lines.proofs.words_line.Goals as goal
use Rattle.lines.proofs.words_line.Invariants.{piece}

pub word_text-requires : goal.word_text-requires
word_text-requires g c =
    let words = c.args.words.now in
    let room = room_first (join_below (length words) (piece words)) line_end c.args.out.now c.requires in
    (search rules, appending_room (piece words) c.args.out.now (length words) _ c.loop-i.i c.loop-i.out room c.loop-i-test.true c.loop-i.invariant)

pub loop-i-preserved : goal.loop-i-preserved
loop-i-preserved g c =
    appending_more (piece c.args.words.now) c.args.out.now c.loop-i.i c.loop-i.out c.word_text.new.out c.loop-i.invariant c.word_text.ensures

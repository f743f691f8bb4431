use Rattle.std.proofs.Common.{length, take, length-take, ◌≡◌, sym, ap, ap₂, arith, ◌*◌, rules}
use Rattle.std.proofs.lemmas.List.{length-take-le}
use Rattle.meaning.specs.File.Grammar.{instrument_of}
use Rattle.meaning.specs.Reference.Answers.{mark_words_of}
use Rattle.instrument.specs.Delivered.{delivered}
use Rattle.instrument.proofs.Bounds.{node_bounds}
use Rattle.marks.proofs.AllMarks.{words_length}
use Rattle.answers.specs.Lines.{mark_lines}
use Rattle.lines.proofs.Lengths.{marks_short}
use Rattle.answer_text.proofs.Marks.{few_marks}
use Rattle.answer_text.proofs.Outcomes.{taken}
use Rattle.answer_text.proofs.entries.instrument_marks.Goals as goal

pub slice_bounds-mark_lines-end : goal.slice_bounds-mark_lines-end
slice_bounds-mark_lines-end c =
    let words = c.write_marks.new.out in
    let long : length words ≡ 192 = search rules in
    sym (length-take-le _ words (omega (arith, long, few_marks (delivered c.args.t) c.args.t.described.0 c.args.t.described.1)))

pub mark_lines-requires : goal.mark_lines-requires
mark_lines-requires c =
    let t = delivered c.args.t in
    let n = 2 * c.args.t.outline.now.components * c.args.t.outline.now.nodecount in
    let words = c.write_marks.new.out in
    omega (
      arith,
      few_marks t c.args.t.described.0 c.args.t.described.1,
      ap length c.requires,
      (node_bounds t c.args.t.described.0 c.args.t.described.1).0,
      marks_short c.args.t.outline.now.nodecount (take n words),
      length-take n words,
    )

pub returns : goal.returns
returns c = λ k d.
    let n = sym (words_length (delivered c.args.t) k d) in
    let same = ap₂ mark_lines (ap (λ t. t.nodecount) d.same) (taken (mark_words_of (instrument_of k)) _ _ _ n (c.write_marks.ensures k d)) in
    search (rules, same)

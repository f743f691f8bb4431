use Rattle.std.proofs.Common.{length, take, length-take, ◌≡◌, ◌∙◌, sym, ap, arith, rules}
use Rattle.std.proofs.lemmas.Result.{err_from_is_err_and}
use Rattle.answers.specs.Lines.{words_line}
use Rattle.lines.proofs.Lengths.{words_short}
use Rattle.answer_text.proofs.Outcomes.{refused_text, entered}
use Rattle.answer_text.proofs.Texts.{merged_text, merged_numbered}
use Rattle.answer_text.proofs.entries.merged.Goals as goal

pub returns-in_err-n : goal.returns-in_err-n
returns-in_err-n c =
    let p = err_from_is_err_and c.from_residual.result c.from_residual.ensures.1 in
    rw (p.1, p.2) (c.requires, refused_text words_line _ _ c.in_err-n.ensures.answer ∙ sym (merged_text c.args.file.now))

pub slice_bounds-words_line-end : goal.slice_bounds-words_line-end
slice_bounds-words_line-end c = (entered words_line _ (merged_numbered c.args.file.now) _ c.in_ok-n.ensures.answer).fits

pub words_line-requires : goal.words_line-requires
words_line-requires c =
    let words = c.merged_words.new.out in
    let long : length words ≡ 4096 = search rules in
    let n = c.in_ok-n.n in
    omega (arith, ap length c.requires, long, length-take n words, words_short (take n words))

pub returns : goal.returns
returns c =
    let e = entered words_line _ (merged_numbered c.args.file.now) _ c.in_ok-n.ensures.answer in
    search (rules, e.text ∙ sym (merged_text c.args.file.now), c.requires)

use Rattle.std.proofs.Common.{sym, ap, ◌∙◌, length}
use Rattle.std.proofs.lemmas.Result.{err_from_is_err_and}
use Rattle.meaning.specs.File.Grammar.{instrument_of}
use Rattle.cursor.specs.declared.Refusal.TheVariants.{MergedSize}
use Rattle.answers.specs.Outcomes.{judgement}
use Rattle.verdict.specs.Answers.{answer_of}
use Rattle.queries.proofs.Lines.{listed_refused, listed_same}
use Rattle.root_words.proofs.LastNode.{own_prepared}
use Rattle.queries.proofs.listed.write_listing.Goals as goal

pub root_classes-names-requires : goal.root_classes-names-requires
root_classes-names-requires c =
    let (k, d) = c.args.t.described in
    (k, record { describes = d; marked = c.all_marks-marks.ensures k d })

pub judge_prepared-judged-requires : goal.judge_prepared-judged-requires
judge_prepared-judged-requires c =
    let (k, d) = c.args.t.described in (k, own_prepared c.all_marks-marks.ensures c.root_classes-names.ensures k d)

pub write_lines-requires : goal.write_lines-requires
write_lines-requires c =
    let (k, d) = c.args.t.described in
    (k, d, (own_prepared c.all_marks-marks.ensures c.root_classes-names.ensures k d).named)

pub returns-in_err-judged : goal.returns-in_err-judged
returns-in_err-judged c =
    λ k d.
    let p = err_from_is_err_and c.from_residual.result c.from_residual.ensures.1 in
    let old = c.args.out.now in
    let q = own_prepared c.all_marks-marks.ensures c.root_classes-names.ensures k d in
    let I = instrument_of k in
    let told = ap answer_of (sym c.in_err-judged.was) ∙ c.judge_prepared-judged.ensures k q in
    rw (p.1, p.2) (listed_same I (length old) (ap judgement told) (listed_refused I (length old) MergedSize old))

pub returns : goal.returns
returns c =
    λ k d.
    let p = own_prepared c.all_marks-marks.ensures c.root_classes-names.ensures k d in
    let told = ap answer_of (sym c.in_ok-judged.was) ∙ c.judge_prepared-judged.ensures k p in
    listed_same (instrument_of k) (length c.args.out.now) (ap judgement told) (c.write_lines.ensures k d p.named)

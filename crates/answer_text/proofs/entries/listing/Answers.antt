use Rattle.std.proofs.Common.{length, length-take, ◌≡◌, ◌∙◌, sym, ap, arith, rules}
use Rattle.std.proofs.lemmas.Result.{err_from_is_err_and}
use Rattle.answer_text.proofs.Outcomes.{refused_text, entered}
use Rattle.answer_text.proofs.Texts.{listing_text_lem, listing_numbered}
use Rattle.answer_text.proofs.entries.listing.Goals as goal

pub returns-in_err-n : goal.returns-in_err-n
returns-in_err-n c =
    let p = err_from_is_err_and c.from_residual.result c.from_residual.ensures.1 in
    rw (p.1, p.2) (c.requires, refused_text (λ vs. vs) _ _ c.in_err-n.ensures.answer ∙ sym (listing_text_lem c.args.file.now 2048 (omega arith)))

pub slice_bounds-word-end : goal.slice_bounds-word-end
slice_bounds-word-end c = (entered (λ vs. vs) _ (listing_numbered c.args.file.now 2048) _ c.in_ok-n.ensures.answer).fits

pub word-requires : goal.word-requires
word-requires c =
    let bytes = c.listing.new.out in
    let long : length bytes ≡ 2048 = search rules in
    omega (arith, ap length c.requires, long, length-take c.in_ok-n.n bytes)

pub returns : goal.returns
returns c =
    let e = entered (λ vs. vs) _ (listing_numbered c.args.file.now 2048) _ c.in_ok-n.ensures.answer in
    search (rules, e.text ∙ sym (listing_text_lem c.args.file.now 2048 (omega arith)), c.requires)

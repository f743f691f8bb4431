use Rattle.std.proofs.Common.{ap, ◌∙◌, length, arith}
use Rattle.meaning.specs.File.Grammar.{instrument_of}
use Rattle.instrument.specs.Delivered.{delivered}
use Rattle.answers.specs.Buffers.{entries, lent_after}
use Rattle.answers.specs.Listing.{listing_text}
use Rattle.judgement.specs.Judged.{judgement_of}
use Rattle.entry_queries.proofs.Answering.{too_short, written}
use Rattle.queries.proofs.Lines.{lines_listed}
use Rattle.queries.proofs.listed.write_lines.Goals as goal

pub merged_count-merged-requires : goal.merged_count-merged-requires
merged_count-merged-requires c = let (k, d, e) = c.requires in (_, k, d)

pub listing_text-text-requires : goal.listing_text-text-requires
listing_text-text-requires c =
    let (k, d, e) = c.requires in (_, k, lines_listed (delivered c.args.t) k d _ _ _ e (c.merged_count-merged.ensures _ k d) (c.combined_count-full.ensures k d))

pub returns-then-out-n : goal.returns-then-out-n
returns-then-out-n c =
    λ k d e.
    -- the text is the listing's
    let l = lines_listed (delivered c.args.t) k d _ _ _ e (c.merged_count-merged.ensures _ k d) (c.combined_count-full.ensures k d) in
    let s = c.listing_text-text.ensures _ k l in
    too_short (listing_text (instrument_of k) (judgement_of c.args.judgement)) c.args.out.now (omega (arith, ap length s))

pub returns : goal.returns
returns c =
    λ k d e.
    -- the text is the listing's
    let l = lines_listed (delivered c.args.t) k d _ _ _ e (c.merged_count-merged.ensures _ k d) (c.combined_count-full.ensures k d) in
    let s = c.listing_text-text.ensures _ k l in
    written (listing_text (instrument_of k) (judgement_of c.args.judgement)) c.args.out.now _ _ (omega (arith, ap length s)) (omega (arith, ap length s))
    (c.copy_text.ensures ∙ ap (λ l. lent_after (entries l) c.args.out.now) s)

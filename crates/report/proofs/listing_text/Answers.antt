use Rattle.std.proofs.Common.{arith, ap, length, length-append, rules, ◌^◌, ◌≤◌}
use Rattle.meaning.specs.File.Grammar.{limits, most_states}
use Rattle.instrument.specs.Outline.{whole}
use Rattle.answers.specs.Listing.{verdict_line}
use Rattle.judgement.specs.Judged.{judgement_of}
use Rattle.listing_lines.specs.Lines.{class_lines}
use Rattle.listing_lines.proofs.Lengths.{size_line_short, verdict_line_short}
use Rattle.report.proofs.Sizes.{merged_few, full_few}
use Rattle.report.proofs.Listings.{described_few, described_short, listing_same}
use Rattle.report.proofs.listing_text.Goals as goal

pub verdict_line-requires : goal.verdict_line-requires
verdict_line-requires c = omega (arith, ap length c.new-text.ensures, verdict_line_short (judgement_of c.args.judgement))

pub class_lines-requires : goal.class_lines-requires
class_lines-requires c =
    let (nexts, k, h) = c.requires in
    let t = whole c.args.t nexts in (
      omega arith,
      (
        described_few t k h.describes,
        omega (
          arith,
          ap length c.new-text.ensures,
          ap length c.verdict_line.ensures,
          length-append c.new-text.result.items (verdict_line (judgement_of c.args.judgement)),
          verdict_line_short (judgement_of c.args.judgement),
          described_short t k h.describes c.args.names h.named,
        ),
      ),
    )

pub overflow_cast-merged : goal.overflow_cast-merged
overflow_cast-merged c =
    let few : (c.args.merged ≤ most_states ^ limits.components) × (c.args.full ≤ most_states ^ limits.components) = let (nexts, k, h) = c.requires in
    (rw h.merged_is (merged_few k h.describes.promised), rw h.full_is (full_few k h.describes.promised)) in
    omega (arith, few)

pub overflow_cast-full : goal.overflow_cast-full
overflow_cast-full c =
    let few : (c.args.merged ≤ most_states ^ limits.components) × (c.args.full ≤ most_states ^ limits.components) = let (nexts, k, h) = c.requires in
    (rw h.merged_is (merged_few k h.describes.promised), rw h.full_is (full_few k h.describes.promised)) in
    omega (arith, few)

pub size_line-requires : goal.size_line-requires
size_line-requires c =
    let (nexts, k, h) = c.requires in
    let t = whole c.args.t nexts in
    omega (
      arith,
      ap length c.new-text.ensures,
      ap length c.verdict_line.ensures,
      length-append c.new-text.result.items (verdict_line (judgement_of c.args.judgement)),
      verdict_line_short (judgement_of c.args.judgement),
      ap length c.class_lines.ensures,
      length-append c.verdict_line.new.out.items (class_lines c.args.t.components c.args.t.states c.args.names),
      described_short t k h.describes c.args.names h.named,
      size_line_short c.args.merged c.args.full,
    )

pub returns : goal.returns
returns c = λ nexts k h.
    search (rules, listing_same (whole c.args.t nexts) c.args.names c.args.merged c.args.full k h (judgement_of c.args.judgement))

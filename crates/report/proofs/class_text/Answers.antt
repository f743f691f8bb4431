use Rattle.std.proofs.Common.{arith, ap, length, rules}
use Rattle.instrument.specs.Outline.{whole}
use Rattle.report.proofs.Listings.{described_few, described_short, lines_same}
use Rattle.report.proofs.class_text.Goals as goal

pub class_lines-requires : goal.class_lines-requires
class_lines-requires c =
    let (nexts, k, d, e) = c.requires in
    let t = whole c.args.t nexts in
    (omega arith, (described_few t k d, omega (arith, ap length c.new-lines.ensures, described_short t k d _ e)))

pub returns : goal.returns
returns c = λ nexts k d e.
    search (rules, lines_same (whole c.args.t nexts) k d _ e)

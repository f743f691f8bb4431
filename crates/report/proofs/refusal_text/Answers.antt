use Rattle.std.proofs.Common.{rules}
use Rattle.listing_lines.proofs.Lengths.{refusal_line_short}
use Rattle.report.proofs.refusal_text.Goals as goal

pub refusal_line-requires : goal.refusal_line-requires
refusal_line-requires c = search (rules, refusal_line_short c.args.number)

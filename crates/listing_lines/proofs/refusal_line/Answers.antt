use Rattle.std.proofs.Common.{rules}
use Rattle.answers.specs.Listing.{refusal_line_of}
use Rattle.listing_lines.proofs.refusal_line.Goals as goal

pub numbered-requires : goal.numbered-requires
unfolding refusal_line_of
numbered-requires g c = search rules

pub returns : goal.returns
unfolding refusal_line_of
returns g c = search rules

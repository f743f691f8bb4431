use Rattle.std.proofs.Common.{ap, ◌∙◌}
use Rattle.answers.specs.Listing.{refusal_line_of}
use Rattle.queries.proofs.listed.refusal_line.Goals as goal

pub returns : goal.returns
returns c = record { answer = c.refusal_text.ensures ∙ ap refusal_line_of c.number.ensures }

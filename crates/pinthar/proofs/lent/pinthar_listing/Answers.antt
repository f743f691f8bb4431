use Rattle.pinthar.proofs.Codes.{returned}
use Rattle.pinthar.proofs.lent.pinthar_listing.Goals as goal

pub returns : goal.returns
returns c = record { answer = returned c.listing.ensures.answer c.of_answer.ensures }

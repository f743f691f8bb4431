use Rattle.std.proofs.Common.{◌≡◌, rules, tests}
use Rattle.std.proofs.lemmas.Iterator.{YieldsList-from_slice, IsFirst-from_position}
use Rattle.instrument.proofs.Lists.{place_in}
use Rattle.instrument.proofs.component.Component.place_of.Goals as goal

pub returns : goal.returns
returns c =
    place_in _ _ c.position.result
    (IsFirst-from_position _ _ c.position.result (λ v. v ≡ c.args.signal) (λ v. v ≡ c.args.signal → ⊥) c.position.ensures.ran
    (YieldsList-from_slice _ c.iter.ensures.rest) (λ x q k. search (rules, tests)) (λ x q k. search (rules, tests)))

use Rattle.std.proofs.Common.{◌≡◌, ◌∙◌, Some, None, rules, tests}
use Rattle.std.proofs.lemmas.Iterator.{YieldsList-from_slice, IsFirst-from_position}
use Rattle.std.proofs.lemmas.List.{take_rest}
use Rattle.arguments.proofs.Words.{word_ends}
use Rattle.arguments.proofs.line.word_end.Goals as goal

pub returns-in-Some : goal.returns-in-Some
returns-in-Some c =
    word_ends _ _ (Some c.in-Some.n) c.requires
    (IsFirst-from_position _ _ (Some c.in-Some.n) (λ b. b ≡ 32) (λ b. b ≡ 32 → ⊥) c.in-Some.ensures.ran
    (YieldsList-from_slice _ (c.iter.ensures.rest ∙ take_rest c.args.line.now c.args.from)) (λ x q k. search (rules, tests)) (λ x q k. search (rules, tests)))

pub returns-in-None : goal.returns-in-None
returns-in-None c =
    word_ends _ _ None c.requires
    (IsFirst-from_position _ _ None (λ b. b ≡ 32) (λ b. b ≡ 32 → ⊥) c.in-None.ensures.ran
    (YieldsList-from_slice _ (c.iter.ensures.rest ∙ take_rest c.args.line.now c.args.from)) (λ x q k. search (rules, tests)) (λ x q k. search (rules, tests)))

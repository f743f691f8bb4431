use Rattle.std.proofs.Common.{◌≡◌, ◌∙◌, rules, Some, None}
use Rattle.arguments.proofs.Numbers.{taken_start, taken_more, taken_other, taken_many}
use Rattle.arguments.proofs.line.read_numbers.Goals as goal

pub loop-at-init : goal.loop-at-init
loop-at-init c = taken_start _ _ _ c.new-numbers.ensures c.requires

pub returns-in_err-v : goal.returns-in_err-v
returns-in_err-v c =
    let e : None ≡ c.number.result = search rules in
    let r : c.from_residual.result ≡ None = search rules in
    rw r (taken_other _ _ c.loop-at.invariant c.word_end-end.ensures (e ∙ c.number.ensures))

pub returns-then-is_full : goal.returns-then-is_full
returns-then-is_full c = taken_many _ _ c.loop-at.invariant c.word_end-end.ensures (search rules)

pub loop-at-preserved : goal.loop-at-preserved
loop-at-preserved c =
    let e : Some c.in_ok-v.v ≡ c.number.result = search rules in
    rw c.push.ensures.items (taken_more _ _ c.loop-at.invariant c.word_end-end.ensures c.in_ok-v.v (e ∙ c.number.ensures))

use Rattle.std.proofs.Common.{refl, get_or, arith, ℕ, ◌+◌}
use Rattle.meaning.proofs.Merged.Numbers.{classes_few}
use Rattle.loops.proofs.Folded.{folded_start, folded_more, folded_end}
use Rattle.class_names.specs.Names as names
use Rattle.class_names.proofs.Naming.{count_in, count_out}
use Rattle.class_names.proofs.class_count.Goals as goal
use Rattle.class_names.proofs.class_count.Goals.{then-names-c, else-names-c}

pub loop-c-init : goal.loop-c-init
loop-c-init c = folded_start refl

-- no more classes than states
pub overflow_add-count : goal.overflow_add-count
overflow_add-count c =
    omega (arith, c.loop-c.invariant, classes_few (λ x. get_or c.args.names x 0) c.loop-c.c)

pub loop-c-preserved : goal.loop-c-preserved
loop-c-preserved c =
    let cls : ℕ → ℕ = λ x. get_or c.args.names x 0 in
    elim c.if-names-c.branch [
      | then-names-c w ↦ folded_more c.loop-c.invariant c.loop-c-test.true (λ n. n + 1) w.count-is (count_in cls c.loop-c.c w.if-names-c.true)
      | else-names-c w ↦ folded_more c.loop-c.invariant c.loop-c-test.true (λ n. n) w.count-is (count_out cls c.loop-c.c w.if-names-c.false)
    ]

pub returns : goal.returns
unfolding names.class_count_of
returns c = folded_end c.loop-c.invariant c.loop-c-test.false

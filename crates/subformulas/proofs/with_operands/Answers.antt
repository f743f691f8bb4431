use Rattle.std.proofs.Common.{refl, sym, ap, ◌∙◌, arith}
use Rattle.words.specs.Sets.{insert}
use Rattle.meaning.specs.Nodes.{neg, or, ex, eg, eu, of_neg, of_or_l, of_or_r, of_ex, of_eg, of_eu_l, of_eu_r}
use Rattle.instrument.specs.ByKind.{of_known}
use Rattle.meaning.specs.File.Grammar.{with_all}
use Rattle.meaning.specs.Reference.Nodes.{operands}
use Rattle.instrument.proofs.Nodes.{unknown_node}
use Rattle.subformulas.proofs.with_operands.Goals as goal

pub insert-requires : goal.insert-requires
insert-requires c = omega (arith, c.requires.each (neg c.args.node.left) (rw c.in-2.is refl) c.args.node.left of_neg)

pub insert-requires-in-3 : goal.insert-requires-in-3
insert-requires-in-3 c =
    omega (arith, c.requires.each (or c.args.node.left c.args.node.right) (rw c.in-3.is refl) c.args.node.left of_or_l)

pub insert-requires-in-3-2 : goal.insert-requires-in-3-2
insert-requires-in-3-2 c =
    omega (arith, c.requires.each (or c.args.node.left c.args.node.right) (rw c.in-3.is refl) c.args.node.right of_or_r)

pub insert-requires-in-4 : goal.insert-requires-in-4
insert-requires-in-4 c = omega (arith, c.requires.each (ex c.args.node.left) (rw c.in-4.is refl) c.args.node.left of_ex)

pub insert-requires-in-5 : goal.insert-requires-in-5
insert-requires-in-5 c = omega (arith, c.requires.each (eg c.args.node.left) (rw c.in-5.is refl) c.args.node.left of_eg)

pub insert-requires-in-6 : goal.insert-requires-in-6
insert-requires-in-6 c =
    omega (arith, c.requires.each (eu c.args.node.left c.args.node.right) (rw c.in-6.is refl) c.args.node.left of_eu_l)

pub insert-requires-in-6-2 : goal.insert-requires-in-6-2
insert-requires-in-6-2 c =
    omega (arith, c.requires.each (eu c.args.node.left c.args.node.right) (rw c.in-6.is refl) c.args.node.right of_eu_r)

pub returns-in-0 : goal.returns-in-0
unfolding with_all
returns-in-0 c = rw c.in-0.is refl

pub returns-in-1 : goal.returns-in-1
unfolding with_all
returns-in-1 c = rw c.in-1.is refl

pub returns-in-2 : goal.returns-in-2
unfolding with_all
returns-in-2 c = rw c.in-2.is c.insert.ensures

pub returns-in-3 : goal.returns-in-3
unfolding with_all
returns-in-3 c =
    rw c.in-3.is (c.insert-in-3-2.ensures ∙ ap (λ s. insert s c.args.node.right) c.insert-in-3.ensures)

pub returns-in-4 : goal.returns-in-4
unfolding with_all
returns-in-4 c = rw c.in-4.is c.insert-in-4.ensures

pub returns-in-5 : goal.returns-in-5
unfolding with_all
returns-in-5 c = rw c.in-5.is c.insert-in-5.ensures

pub returns-in-6 : goal.returns-in-6
unfolding with_all
returns-in-6 c =
    rw c.in-6.is (c.insert-in-6-2.ensures ∙ ap (λ s. insert s c.args.node.right) c.insert-in-6.ensures)

pub returns-in-7-to-4294967295 : goal.returns-in-7-to-4294967295
returns-in-7-to-4294967295 c =
    ap (λ m. of_known c.args.set m (λ m. with_all c.args.set (operands m))) (sym (unknown_node c.args.node.kind c.args.node.left c.args.node.left c.args.node.right (omega arith)))

use Rattle.std.proofs.Common.{◌≡◌, ◌<◌, refl, ap, ◌∙◌, arith, length, get_or, take}
use Rattle.std.proofs.Math.Seq.{take-length}
use Rattle.std.proofs.lemmas.List.{get_or-take, length-take}
use Rattle.words.specs.Sets.{insert}
use Rattle.meaning.specs.File.Grammar.{with_all}
use Rattle.subformulas.proofs.Root.{with_more}
use Rattle.subformulas.proofs.root_set.Goals as goal

pub loop-root-init : goal.loop-root-init
unfolding with_all
loop-root-init c = refl

pub insert-set-requires : goal.insert-set-requires
insert-set-requires c =
    let a = c.args.roots in
    let j = c.loop-root.root-index in
    let l : j < length (take a.count a.nodes) = c.loop-root-test.true in
    let k : j < a.count = omega (arith, length-take a.count a.nodes) in
    omega (arith, get_or-take a.count a.nodes j 0 k, c.requires.each j k)

pub loop-root-preserved : goal.loop-root-preserved
loop-root-preserved c =
    let roots = take c.args.roots.count c.args.roots.nodes in
    c.insert-set.ensures ∙ ap (λ s. insert s (get_or roots c.loop-root.root-index 0)) c.loop-root.invariant
    ∙ with_more 0 roots c.loop-root.root-index c.loop-root-test.true

pub returns : goal.returns
returns c =
    let roots = take c.args.roots.count c.args.roots.nodes in
    let e : c.loop-root.root-index ≡ length roots = omega arith in
    c.loop-root.invariant ∙ ap (λ k. with_all 0 (take k roots)) e ∙ ap (with_all 0) (take-length roots)

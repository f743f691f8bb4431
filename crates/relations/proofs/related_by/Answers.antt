use Rattle.std.proofs.Common.{◌≡◌, ap, ◌∙◌, arith, length, take, ◌<◌}
use Rattle.std.proofs.Math.Seq.{take-length}
use Rattle.std.proofs.lemmas.List.{get_or-take, length-take}
use Rattle.relations.specs.Relations.{related_by}
use Rattle.relations.proofs.Parts.{by_none, by_more}
use Rattle.relations.proofs.related_by.Goals as goal

pub loop-root-init : goal.loop-root-init
loop-root-init c = c.rel_all-all.ensures ∙ by_none _ c.requires.0 c.args.relations.now (take c.args.roots.count c.args.roots.nodes)

pub bounds-relations-root : goal.bounds-relations-root
bounds-relations-root c =
    -- a root is a node
    let a = c.args.roots in
    let j = c.loop-root.root-index in
    let l : j < length (take a.count a.nodes) = c.loop-root-test.true in
    let k : j < a.count = omega (arith, length-take a.count a.nodes) in
    omega (arith, get_or-take a.count a.nodes j 0 k, c.requires.1.each j k)

pub loop-root-preserved : goal.loop-root-preserved
loop-root-preserved c =
    let roots = take c.args.roots.count c.args.roots.nodes in
    c.rel_both-all.ensures
    ∙ by_more _ c.requires.0 c.args.relations.now roots c.loop-root.root-index c.loop-root-test.true c.loop-root.all c.loop-root.invariant

pub returns : goal.returns
returns c =
    let roots = take c.args.roots.count c.args.roots.nodes in
    let e : c.loop-root.root-index ≡ length roots = omega arith in
    c.loop-root.invariant ∙ ap (λ k. related_by c.args.states c.args.relations.now (take k roots)) e
    ∙ ap (related_by c.args.states c.args.relations.now) (take-length roots)

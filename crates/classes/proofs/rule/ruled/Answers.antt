use Rattle.std.proofs.Common.{◌≡◌, ap, ◌∙◌, Bool, ◌&&◌, ◌||◌, eqb, get_or, rules, ℕ}
use Rattle.words.specs.Sets.{has, built}
use Rattle.mark_rules.specs.declared.Mark.{Mark}
use Rattle.classes.specs.Matching as matching
use Rattle.classes.specs.Related as related
use Rattle.classes.specs.Rows.{rel, rows}
use Rattle.classes.proofs.Rows.{rel_rows_lem}
use Rattle.classes.proofs.Filled.{filled_is}
use Rattle.classes.proofs.Row.{ruled_both}
use Rattle.classes.proofs.rule.ruled.Goals as goal

pub returns : goal.returns
unfolding matching.ruled related.related_both rows
returns c = filled_is c.rows.ensures c.requires.0 (λ x w l p.
    let g : ℕ → Bool = λ y. eqb (get_or c.args.compared.now x 0) (get_or c.args.compared.now y 0) in
    let m : Mark = c.args.mark in
    let r : ℕ = get_or c.args.r.now x 0 in
    let v : ℕ = get_or c.rel_both-matched.result x 0 in
    let both : ℕ → ℕ → Bool = λ x y. rel c.args.forth.now x y && rel c.args.back.now x y in
    let e : w ≡ built c.args.states (λ y. has r y && ((has m.pass x && has m.pass y) || ((has m.fail x && has m.fail y) || (g y && has v y)))) = search rules in
    ruled_both c.args.states r m x g (get_or c.args.forth.now x 0) (get_or c.args.back.now x 0) v
    (λ y k. ap (λ r. rel r x y) c.rel_both-matched.ensures ∙ rel_rows_lem c.args.states both x y c.requires.0 l k) e)

use Rattle.std.proofs.Common.{◌≡◌, sym, ◌∙◌, rules}
use Rattle.words.proofs.Built.{built_below}
use Rattle.classes.specs.Related as related
use Rattle.classes.specs.Rows.{rows}
use Rattle.classes.proofs.Filled.{filled_is}
use Rattle.classes.proofs.relation.rel_all.Goals as goal

pub returns : goal.returns
unfolding related.related_all rows
returns c = filled_is c.rows.ensures c.requires (λ x w l p.
    let e : w ≡ c.below-all.result = search rules in
    e ∙ (c.below-all.ensures ∙ sym (built_below _)))

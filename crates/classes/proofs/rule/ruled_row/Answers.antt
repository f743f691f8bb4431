use Rattle.std.proofs.Common.{◌∙◌, eqb, get_or}
use Rattle.words.proofs.Members.{intersection_lt}
use Rattle.classes.proofs.Row.{cut_narrow, ruled_row}
use Rattle.classes.proofs.rule.ruled_row.Goals as goal

pub same_outputs-alike-requires : goal.same_outputs-alike-requires
same_outputs-alike-requires c =
    let p = c.requires in
    (p.1, p.2, rw (c.intersection-among.ensures, c.intersection-own.ensures, c.below.ensures) (intersection_lt _ _ _ (cut_narrow _ _)))

pub returns : goal.returns
returns c =
    c.kept.ensures ∙ ruled_row _ _ _ _ (λ y. eqb (get_or c.args.compared.now c.args.x 0) (get_or c.args.compared.now y 0)) _
    (c.intersection-own.ensures ∙ rw c.below.ensures) (c.same_outputs-alike.ensures ∙ rw c.intersection-among.ensures)

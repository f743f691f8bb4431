use Rattle.std.proofs.Common.{arith, refl, sym, ap, ap₂, ◌∙◌}
use Rattle.instrument.proofs.Nodes.{unknown_has}
use Rattle.instrument.specs.Table.{table_of}
use Rattle.mark_rules.specs.declared.Mark.{Mark}
use Rattle.classes.specs.Related.{related_ex, related_fixed}
use Rattle.relations.specs.Relations.{Sorted}
use Rattle.relations.proofs.node_relation.Goals as goal

pub returns-in-0 : goal.returns-in-0
returns-in-0 c = rw c.in-0.is (λ over h. c.rel_all.ensures)

pub returns-in-1 : goal.returns-in-1
returns-in-1 c = rw c.in-1.is (λ over h. c.signal_relation.ensures)

pub returns-in-2 : goal.returns-in-2
returns-in-2 c = rw c.in-2.is (λ over h. refl)

pub returns-in-3 : goal.returns-in-3
returns-in-3 c = rw c.in-3.is (λ over h. c.rel_both.ensures)

pub returns-in-4 : goal.returns-in-4
returns-in-4 c =
    rw c.in-4.is (λ over h.
    c.rel_ex.ensures ∙ ap (λ (m : Mark). related_ex (table_of c.args.component.table) c.args.compared.now c.args.a.now m c.args.under.fail) h)

pub returns-in-5 : goal.returns-in-5
returns-in-5 c =
    rw c.in-5.is (λ over h.
    c.rel_fixed.ensures ∙ ap (λ (m : Mark). related_fixed (table_of c.args.component.table) c.args.compared.now c.args.a.now m) h)

pub returns-in-6 : goal.returns-in-6
returns-in-6 c =
    rw c.in-6.is (λ over h.
    c.rel_fixed-in-6.ensures
    ∙ ap₂ (λ (m : Mark) r. related_fixed (table_of c.args.component.table) c.args.compared.now r m) h c.rel_both-both.ensures)

pub returns-in-7-to-4294967295 : goal.returns-in-7-to-4294967295
returns-in-7-to-4294967295 c =
    λ over h. c.rel_all-in-7-to-4294967295.ensures ∙ ap (λ (x : Sorted). x.relation) (sym (unknown_has _ _ c.args.node.kind _ _ _ (omega arith)))

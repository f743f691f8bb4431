use Rattle.std.proofs.Common.{refl, sym, ap, ◌∙◌, get_or, arith}
use Rattle.meaning.specs.File.Grammar.{instrument_of}
use Rattle.meaning.specs.File.Promise.{component_at}
use Rattle.meaning.specs.Seen.{view_of}
use Rattle.instrument.proofs.Components.{component_table}
use Rattle.marks.proofs.Formulas.{own_view}
use Rattle.compared.proofs.Seen.{compared_seen, outputs_signals}
use Rattle.subformulas.proofs.Root.{good_below}
use Rattle.relations.specs.Relations.{Comparing}
use Rattle.relations.proofs.Parts.{parts_related, needed_closed, roots_related}
use Rattle.relations.proofs.roots_relation.Goals as goal

pub compared_words-compared-requires : goal.compared_words-compared-requires
compared_words-compared-requires c =
    let (k, i, m, u) = c.requires in
    let r = c.args.component in
    (r.table.steps.most_states_lem, r.lists.out_count, outputs_signals k m.promised _ m.here _ (component_table k i r m.is))

pub formula_relations-relations-requires : goal.formula_relations-relations-requires
formula_relations-relations-requires c =
    let (k, i, m, u) = c.requires in
    (omega (arith, c.args.component.table.steps.most_states_lem), (k.nodes, m.listing, needed_closed m.promised u))

pub related_by-requires : goal.related_by-requires
related_by-requires c =
    let (k, i, m, u) = c.requires in
    (c.args.component.table.steps.most_states_lem, good_below u.good m.promised.node_count.1)

pub returns : goal.returns
returns c =
    λ k i m u.
    let r = c.args.component in
    let d = m.promised in
    let v = view_of (instrument_of k) i in
    let e = component_table k i r m.is in
    let compared : Comparing r.table.states c.compared_words-compared.result v =
    λ x h. ap (λ r. get_or r x 0) c.compared_words-compared.ensures
    ∙ compared_seen d m.signals i m.here _ e _ _ _ r.table.steps.most_states_lem refl (λ x. refl) x h
    in
    c.related_by.ensures
    ∙ roots_related d u i _ _ (ap (λ t. t.states) e) r.table.steps.most_states_lem
    (parts_related _ _ e v k.nodes d.node_count.1 _ _ _
    (c.formula_relations-relations.ensures (component_at k i).inputs (sym m.is.inputs_are) v (rw e (own_view _ _)) compared k.nodes
    m.listing (needed_closed d u)) m.marked)

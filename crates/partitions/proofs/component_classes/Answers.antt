use Rattle.std.proofs.Common.{◌∙◌}
use Rattle.instrument.specs.Roots.{listed_roots}
use Rattle.partitions.proofs.Component.{root_inhabited, root_classes_lem}
use Rattle.partitions.proofs.component_classes.Goals as goal

pub class_names-requires : goal.class_names-requires
class_names-requires c =
    let (k, i, m, u) = c.requires in
    (c.args.component.table.steps.most_states_lem, root_inhabited m (listed_roots c.args.roots) _ (c.roots_relation-relation.ensures k i m u))

pub returns : goal.returns
returns c =
    λ k i m u.
    c.class_names.ensures ∙ root_classes_lem m (listed_roots c.args.roots) _ (c.roots_relation-relation.ensures k i m u)

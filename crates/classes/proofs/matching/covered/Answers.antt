use Rattle.std.proofs.Common.{◌∙◌, rules, ◌<◌, T, subst, sym}
use Rattle.words.proofs.Members.{has_lt}
use Rattle.words.proofs.Filtered.{filtered_is}
use Rattle.state_words.specs.Width.{state_bits}
use Rattle.classes.proofs.Component.{within}
use Rattle.classes.proofs.Members.{passed_all, cut_subset}
use Rattle.classes.proofs.matching.covered.Goals as goal

pub returns-then-subset : goal.returns-then-subset
returns-then-subset c =
    passed_all _ _ _ c.requires.1 (λ t. cut_subset state_bits _ _ _ c.ranges.live.fits (subst T (sym c.if-subset.true ∙ c.subset.ensures) tt))

pub filter-requires : goal.filter-requires
filter-requires c = λ y i. let l : y < c.args.table.states = has_lt _ _ _ c.requires.1 i in within c.args.table.steps _ _ l c.requires.0

pub returns : goal.returns
returns c = filtered_is c.filter.ensures c.requires.1 _ (λ y b l p. search rules)

use Rattle.std.proofs.Common.{rules, arith, ◌<◌}
use Rattle.words.proofs.Members.{has_lt}
use Rattle.words.proofs.Filtered.{filtered_is}
use Rattle.classes.proofs.rule.same_outputs.Goals as goal

pub filter-requires : goal.filter-requires
filter-requires c = λ y i. let l : y < c.args.states = has_lt _ _ _ c.requires.2 i in omega arith

pub returns : goal.returns
returns c = filtered_is c.filter.ensures c.requires.2 _ (λ y b l p. search rules)

use Rattle.relations.specs.Relations.{Relating}
use Rattle.relations.proofs.formula_relations.Given as goal

abbrev pub invariant-loop-k : goal.invariant-loop-k
invariant-loop-k l = Relating l.component l.compared l.nodes l.marks l.needed l.k l.relations

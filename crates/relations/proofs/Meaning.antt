-- What the relation of a component at a list of roots means: two states are related exactly if document 01 relates them at every root (meaning's
-- specs/Relation, specs/Roots).
use mathlib.Core.List.{List}
use Prim.Native.Nat.{ℕ, ◌≤◌, ◌<◌}
use Rattle.meaning.specs.Instrument.{Accepted, Instrument, components, table}
use Rattle.meaning.proofs.Basic.Decides.{DecidesPairs}
use Rattle.meaning.proofs.Roots.{RelatedAt, at_decides}
use Rattle.classes.specs.Rows.{rel}
use Rattle.classes.proofs.Meaning.{rows_decide}
use Rattle.meaning.specs.File.Grammar.{most_states}
use Rattle.relations.specs.Relations.{roots_relation}

pub relation_decides : (I : Instrument) (accepted : Accepted I) (roots : List ℕ) (c : ℕ) (l : c < components I) → (table I c).states ≤ most_states
    → DecidesPairs (table I c).states (rel (roots_relation I c roots)) (RelatedAt I accepted roots c l)
relation_decides I accepted roots c l m = rows_decide m (at_decides I accepted roots c l)

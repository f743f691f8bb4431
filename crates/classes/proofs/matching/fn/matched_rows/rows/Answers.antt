use Rattle.words.proofs.Members.{intersection_lt}
use Rattle.classes.proofs.matching.fn.matched_rows.rows.Goals as goal

pub matched_row-requires : goal.matched_row-requires
matched_row-requires c = (c.requires.0, rw c.intersection-among.ensures (intersection_lt _ _ _ c.requires.1))

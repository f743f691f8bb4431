use Rattle.std.proofs.Common.{sym, ap, arith, ◌∙◌, ℕ, ◌+◌}
use Rattle.meaning.specs.File.Parser.{found}
use Rattle.meaning.specs.File.Grammar.{limits}
use Rattle.cursor.proofs.Numbers.{ends}
use Rattle.cursor.proofs.Cursor.number.Goals as goal

-- A group without the high bit is the whole number; else the groups are read one after the other.

pub returns-clause-answer : goal.returns-clause-answer
returns-clause-answer c =
    let here = c.in-Some.ensures.lookup.3 in
    let at = c.args.self.at in
    ap (λ (v : ℕ). found v (at + 1)) (here.1 0)
    ∙ sym (ends c.args.self.file.now at here.0 limits.groups_before (omega arith) (omega (arith, here.1 0)))

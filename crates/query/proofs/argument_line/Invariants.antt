use Rattle.std.proofs.Common.{◌≤◌, length, ◌≡◌}
use Rattle.query.proofs.argument_line.Given as goal

-- The line is as long as it was, and the place is in it.
abbrev pub invariant-loop-i : goal.invariant-loop-i
invariant-loop-i g l = (length l.line ≡ length l.initial.line) × (l.at ≤ length l.line)

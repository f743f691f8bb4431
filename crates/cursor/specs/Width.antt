-- The width of a number of the file (document 02, 12/14), of the limits alone.
use Rattle.std.specs.Prelude.{ℕ, suc, ◌*◌, ◌^◌}
use Rattle.meaning.specs.File.Grammar.{limits}

-- the numbers of the file are those below this: seven bits for each group before the last possible one, and what that one may be
abbrev pub number_end : ℕ
number_end = 2 ^ (7 * limits.groups_before) * suc limits.last_group

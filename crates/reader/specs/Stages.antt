-- The whole file in the stages of the code. That they are the grammar's is proved in proofs/Grammar.
use Rattle.meaning.specs.File.Parser.{Parser, ◌>>=◌, ◌>>◌, give}
use Rattle.meaning.specs.File.Grammar.{Contents, limits, finished}
use Rattle.parsing.specs.Stages.{Stage}
use Rattle.tables.specs.Stages.{read_tables}
use Rattle.formulas.specs.Stages.{read_nodes, read_starts}

-- no byte is left
abbrev pub read_end : Stage
read_end k = do
  finished limits
  give k

abbrev pub read_all : Parser Contents
read_all = do
  tables ← read_tables
  formula ← read_nodes tables
  all ← read_starts formula
  read_end all

-- A stage of reading takes the contents so far and goes on from a place. The grammar of the file is cut into stages where the code is; that
-- the stages together are the grammar is proved in proofs/Grammar of crate reader.
use Rattle.std.specs.Prelude.{ℕ, zero, suc}
use Rattle.meaning.specs.File.Parser.{Got, found, Parser, on, ◌>>=◌, give}
use Rattle.meaning.specs.File.Grammar.{Contents}

-- something else at the same place
abbrev pub mapped : {A B : Type 0} → (A → B) → Got A → Got B
mapped f g = on g (λ a at. found (f a) at)

-- one thing more is read
abbrev pub Stage : Type 0
Stage = Contents → Parser Contents

-- so many things more
abbrev pub times : {A : Type 0} → ℕ → (A → Parser A) → A → Parser A
times zero stage k = give k
times (suc n) stage k = do
  more ← stage k
  times n stage more

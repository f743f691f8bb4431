-- The first bytes, so many as the listing program reads (`listing_bytes`), settle every longer input (document 01, The instrument file and Verdict and listing).
use mathlib.Core.Path.{◌≡◌, ap}
use mathlib.Core.List.{List}
use lib.ListN.{take}
use Prim.Native.Nat.{ℕ}
use Rattle.meaning.specs.File.Grammar.{Contents, read_file}
use Rattle.meaning.specs.File.Parser.{Got}
use Rattle.meaning.specs.File.Promise.{listing_bytes}
use Rattle.meaning.proofs.File.Limit.{limit}

-- whatever is made of what was read is made of the first bytes too
pub settles : {X : Type 0} (f : Got Contents → X) (file : List ℕ) → f (read_file (take listing_bytes file)) ≡ f (read_file file)
settles f file = ap f (limit file)

-- What the listing is made from (document 01, Verdict and listing).
use Rattle.std.specs.Prelude.{◌≡◌, List, ℕ}
use Rattle.meaning.specs.File.Grammar.{Contents, instrument_of}
use Rattle.meaning.specs.Reference.Answers.{full_count, merged_size}
use Rattle.instrument.specs.declared.Instrument.{Instrument}
use Rattle.instrument.specs.Described.{Describes}
use Rattle.partitions.specs.Classes.{root_classes_of}

-- the instrument describes a file's contents; the names of its classes and both sizes are those of document 01
pub record Listed (t : Instrument) (names : List (List ℕ)) (size full : ℕ) (k : Contents) : Type 0 where
  pub describes : Describes t k
  pub named : names ≡ root_classes_of (instrument_of k)
  pub merged_is : size ≡ merged_size (instrument_of k)
  pub full_is : full ≡ full_count (instrument_of k)

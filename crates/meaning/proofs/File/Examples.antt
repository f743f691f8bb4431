-- The pair and the chain of document 01 as they are read, with EG p and EX p: accepted files, from their bytes. The chain whose last state has the
-- empty set, as it is written and as it is read.
use mathlib.Core.Path.{◌≡◌, refl}
use mathlib.Core.List.{[], ◌∷◌}
use Rattle.words.specs.Sets.{digit, insert}
use Rattle.meaning.specs.Cases.{chain_ex, pair}
use Rattle.meaning.specs.StayCases.{empty_ex}
use Rattle.meaning.specs.File.Grammar.{Contents, between, component, instrument_of, less_than, limits, named, node, raw, read_file, signal}
use Rattle.meaning.specs.File.Grammar.{whole, with_all}
use Rattle.meaning.specs.File.Number.{groups}
use Rattle.meaning.specs.File.Parser.{found, list_of}
use Rattle.meaning.specs.File.Promise.{Promised}
use Rattle.meaning.specs.Instrument.{Accepted, Instrument}
use Rattle.meaning.specs.Atoms.{on_signal}
use Rattle.meaning.specs.Nodes.{atom, eg, ex}
use Rattle.meaning.proofs.File.Accepted.{file_accepted}
use Rattle.meaning.proofs.File.Reads.{file_promised}

abbrev pub pair_contents : Contents
pair_contents =
    record {
      signals = 2;
      components =
          record { states = 2; inputs = 1 ∷ []; outputs = 0 ∷ []; outs = 1 ∷ 0 ∷ []; nexts = 2 ∷ 1 ∷ 2 ∷ 2 ∷ [] }
          ∷ record { states = 2; inputs = []; outputs = 1 ∷ []; outs = 1 ∷ 0 ∷ []; nexts = 3 ∷ 2 ∷ [] }
          ∷ [];
      nodes = atom (on_signal 0) ∷ eg 0 ∷ [];
      starts = (0 ∷ 0 ∷ []) ∷ [];
      sets = [];
    }

abbrev pub chain_contents : Contents
chain_contents =
    record {
      signals = 1;
      components = record { states = 3; inputs = []; outputs = 0 ∷ []; outs = 1 ∷ 1 ∷ 0 ∷ []; nexts = 2 ∷ 4 ∷ 4 ∷ [] } ∷ [];
      nodes = atom (on_signal 0) ∷ ex 0 ∷ [];
      starts = (0 ∷ []) ∷ [];
      sets = [];
    }

pub pair_read : read_file (pair (1 ∷ 0 ∷ 0 ∷ [])) ≡ found pair_contents 29
unfolding digit insert with_all groups list_of between less_than signal component named node whole
pair_read = refl

pub chain_read : read_file chain_ex ≡ found chain_contents 19
unfolding digit insert with_all groups list_of between less_than signal component named node whole
chain_read = refl

-- the same chain where state 2 has the empty set: written so, and read as the chain
abbrev pub empty_contents : Contents
empty_contents =
    record {
      signals = 1;
      components = record { states = 3; inputs = []; outputs = 0 ∷ []; outs = 1 ∷ 1 ∷ 0 ∷ []; nexts = 2 ∷ 4 ∷ 0 ∷ [] } ∷ [];
      nodes = atom (on_signal 0) ∷ ex 0 ∷ [];
      starts = (0 ∷ []) ∷ [];
      sets = [];
    }

pub empty_raw : (raw empty_ex ≡ found empty_contents 19) × (raw chain_ex ≡ found chain_contents 19)
unfolding digit insert with_all groups list_of between less_than signal component named node whole
empty_raw = (refl, refl)

pub empty_read : read_file empty_ex ≡ found chain_contents 19
unfolding digit insert with_all groups list_of between less_than signal component named node whole
empty_read = refl

abbrev pub pair_i : Instrument
pair_i = instrument_of pair_contents

abbrev pub chain_i : Instrument
chain_i = instrument_of chain_contents

pub promised_met : Promised limits pair_contents
promised_met = file_promised (pair (1 ∷ 0 ∷ 0 ∷ [])) pair_contents 29 pair_read

pub accepted_met : Accepted pair_i
accepted_met = file_accepted (pair (1 ∷ 0 ∷ 0 ∷ [])) pair_contents 29 pair_read

pub chain_accepted : Accepted chain_i
chain_accepted = file_accepted chain_ex chain_contents 19 chain_read

-- 2/14 from bytes: files that write the same but for spelled-out stays, what they are answered, and the stretches, which are each file's own.
use mathlib.Core.Path.{◌≡◌, refl}
use mathlib.Core.List.{[], ◌∷◌, ◌++◌}
use Rattle.words.specs.Sets.{digit, insert}
use Rattle.meaning.specs.Cases.{chain_eg, pair}
use Rattle.meaning.specs.StayCases.{empty_eg, empty_pair, two}
use Rattle.meaning.specs.File.Grammar.{between, component, less_than, named, node, signal, whole, with_all}
use Rattle.meaning.specs.File.Number.{groups}
use Rattle.meaning.specs.File.Parser.{fault, list_of}
use Rattle.meaning.specs.File.Spelling.{SameButStays}
use Rattle.meaning.specs.File.Stretches.{located}
use Rattle.meaning.proofs.File.Spelling.{same_filled}
use Rattle.answers.specs.Outcomes.{component_bytes_of}
use Rattle.answers.specs.Same.{SameAnswers}
use Rattle.answers.proofs.Same.{same_answers}

-- the chain and the pair of document 01, and files that are refused after their sets
pub chain_alike : SameButStays chain_eg empty_eg
unfolding digit insert with_all groups list_of between less_than signal component named node whole
chain_alike = (same_filled _ _).1 refl

pub pair_alike : SameButStays (pair (1 ∷ 0 ∷ 0 ∷ [])) (empty_pair (1 ∷ 0 ∷ 0 ∷ []))
unfolding digit insert with_all groups list_of between less_than signal component named node whole
pair_alike = (same_filled _ _).1 refl

pub refused_alike : SameButStays (two ++ (1 ∷ 2 ∷ 1 ∷ 7 ∷ [])) (two ++ (0 ∷ 0 ∷ 1 ∷ 7 ∷ []))
unfolding digit insert with_all groups list_of between less_than signal component named node whole
refused_alike = refl

-- so they are answered alike
pub chain_answers : SameAnswers chain_eg empty_eg
chain_answers = same_answers chain_eg empty_eg chain_alike

-- but for the stretches, which end with byte 4 and with byte 0; the number of a component that there is not is the same
pub own_stretches : (component_bytes_of chain_eg 0 ≡ 3 ∷ 0 ∷ 1 ∷ 0 ∷ 1 ∷ 1 ∷ 0 ∷ 2 ∷ 4 ∷ 4 ∷ [])
    × (component_bytes_of empty_eg 0 ≡ 3 ∷ 0 ∷ 1 ∷ 0 ∷ 1 ∷ 1 ∷ 0 ∷ 2 ∷ 4 ∷ 0 ∷ [])
unfolding digit insert with_all groups list_of between less_than signal component named node whole
own_stretches = (refl, refl)

pub no_component_lem : (located chain_eg 1 ≡ fault 3) × (located empty_eg 1 ≡ fault 3)
unfolding digit insert with_all groups list_of between less_than signal component named node whole
no_component_lem = (refl, refl)

-- a file with a bit too high beside an empty set: its refusal is that of every question
pub too_high_beside : (located (two ++ (0 ∷ 4 ∷ [])) 0 ≡ fault 6) × (located (two ++ (0 ∷ 4 ∷ [])) 1 ≡ fault 6)
unfolding digit insert with_all groups list_of between less_than signal component named node whole
too_high_beside = (refl, refl)

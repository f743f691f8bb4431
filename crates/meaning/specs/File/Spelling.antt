-- Two spellings of a stay (document 02, 2/14): a file with an explicit stay says the same as one with the empty set.
use Rattle.std.specs.Prelude.{◌≡◌, ◌⊎◌, List, [], ◌∷◌, T, length, get_or, ℕ, suc, ◌+◌, ◌*◌, ◌/◌, ◌^◌}
use Rattle.words.specs.Sets.{has}
use Rattle.meaning.specs.File.Parser.{Got, found, fault}
use Rattle.meaning.specs.File.Grammar.{Component, Contents, raw}

-- the set that is written for the state x and the assignment a
abbrev pub written_set : Component → ℕ → ℕ → ℕ
written_set c x a = get_or c.nexts (2 ^ length c.inputs * x + a) 0

-- y follows by what is written there: the set has y, or it is empty and y is the state itself
abbrev pub Follows : Component → ℕ → ℕ → ℕ → Type 0
Follows c x a y = T (has (written_set c x a) y) ⊎ ((written_set c x a ≡ 0) × (y ≡ x))

-- two sets of state x: the same, or one is empty and the other is the state alone
abbrev pub SameSet : ℕ → ℕ → ℕ → Type 0
SameSet x u v = (u ≡ v) ⊎ (((u ≡ 0) × (v ≡ 2 ^ x)) ⊎ ((u ≡ 2 ^ x) × (v ≡ 0)))

-- the sets from place p on, with i inputs
abbrev pub SameSets : ℕ → ℕ → List ℕ → List ℕ → Type 0
SameSets i p [] [] = Unit {0}
SameSets i p [] (v ∷ vs) = ⊥
SameSets i p (u ∷ us) [] = ⊥
SameSets i p (u ∷ us) (v ∷ vs) = SameSet (p / 2 ^ i) u v × SameSets i (suc p) us vs

-- a component, and all, written alike but for such sets
pub record SameComponent (c d : Component) : Type 0 where
  pub states : c.states ≡ d.states
  pub inputs : c.inputs ≡ d.inputs
  pub outputs : c.outputs ≡ d.outputs
  pub outs : c.outs ≡ d.outs
  pub nexts : SameSets (length c.inputs) 0 c.nexts d.nexts

abbrev pub SameComponents : List Component → List Component → Type 0
SameComponents [] [] = Unit {0}
SameComponents [] (d ∷ ds) = ⊥
SameComponents (c ∷ cs) [] = ⊥
SameComponents (c ∷ cs) (d ∷ ds) = SameComponent c d × SameComponents cs ds

pub record SameContents (c d : Contents) : Type 0 where
  pub signals : c.signals ≡ d.signals
  pub components : SameComponents c.components d.components
  pub nodes : c.nodes ≡ d.nodes
  pub starts : c.starts ≡ d.starts
  pub sets : c.sets ≡ d.sets

-- two files: both are refused with one number, or they write the same but for spelled-out stays
abbrev pub SameWritten : Got Contents → Got Contents → Type 0
SameWritten (found c e) (found d h) = SameContents c d
SameWritten (found c e) (fault q) = ⊥
SameWritten (fault r) (found d h) = ⊥
SameWritten (fault r) (fault q) = r ≡ q

abbrev pub SameButStays : List ℕ → List ℕ → Type 0
SameButStays f g = SameWritten (raw f) (raw g)

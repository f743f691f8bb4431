-- The same at document 01's root, the last node: what is known before merged words are written, and before an answer is looked up in them.
use Rattle.std.specs.Prelude.{List, length, ℕ, ◌≤◌}
use Rattle.meaning.specs.File.Grammar.{Contents, instrument_of}
use Rattle.meaning.specs.Reference.Answers.{merged_size}
use Rattle.meaning.specs.Roots.{root_alone}
use Rattle.instrument.specs.declared.Instrument.{Instrument}
use Rattle.mark_rules.specs.declared.Mark.{Mark}
use Rattle.merged_words.specs.Prepared.{Prepared, Ready}

abbrev pub RootPrepared : Instrument → List (List Mark) → List (List ℕ) → Contents → Type 0
RootPrepared t marks names k = Prepared t marks names (root_alone (instrument_of k)) k

pub record RootRoom (t : Instrument) (marks : List (List Mark)) (names : List (List ℕ)) (out : List ℕ) : Type 0 where
  pub contents : Contents
  pub prepared : RootPrepared t marks names contents
  pub few : merged_size (instrument_of contents) ≤ 4096
  pub fits : merged_size (instrument_of contents) ≤ length out

abbrev pub RootReady : Instrument → List (List ℕ) → List ℕ → Contents → Type 0
RootReady t names words k = Ready t names (root_alone (instrument_of k)) words k

-- What the functions that read a whole file promise each other.
use Rattle.std.specs.Prelude.{◌≡◌, List, [], Result, Ok, Err, IfOk, ℕ}
use Rattle.std.specs.declared.ops.Range.{Range}
use Rattle.meaning.specs.File.Parser.{Got, found, fault}
use Rattle.meaning.specs.File.Grammar.{Contents}
use Rattle.meaning.specs.File.Stretches.{Stretch, start_of, end_of}
use Rattle.cursor.specs.Answers.{number}
use Rattle.cursor.specs.declared.Refusal.{Refusal}
use Rattle.instrument.specs.declared.Instrument.{Instrument}
use Rattle.instrument.specs.declared.Node.{Node}
use Rattle.instrument.specs.declared.Outline.{Outline}
use Rattle.instrument.specs.Layout.{layout, nothing}
use Rattle.instrument.specs.Outline.{outline_of}
use Rattle.tables.specs.Growth.{assembled}
use Rattle.reader.specs.declared.FileRead.{FileRead}
use Rattle.reader.specs.Outcomes.{Tells}

-- an instrument with another formula and other starts
abbrev pub changed : Instrument → ℕ → List Node → ℕ → List ℕ → Instrument
changed t nodecount nodes startcount starts =
    record {
      components = t.components;
      signals = t.signals;
      driven = t.driven;
      states = t.states;
      inputcounts = t.inputcounts;
      inputs = t.inputs;
      outputcounts = t.outputcounts;
      outputs = t.outputs;
      outs = t.outs;
      nexts = t.nexts;
      nodecount = nodecount;
      nodes = nodes;
      startcount = startcount;
      starts = starts;
    }

-- the instrument of a whole file
abbrev pub held : FileRead → List ℕ → List ℕ → Instrument
held w outs nexts =
    changed (assembled (layout nothing) w.shapes outs nexts) w.formula.count w.formula.nodes w.starts.count w.starts.starts

-- the same but for its successor sets
abbrev pub held_outline : FileRead → List ℕ → Outline
held_outline w outs = outline_of (held w outs [])

-- contents that are read up to a place, laid out as this instrument
pub record Reached (g : Got Contents) (t : Instrument) (at : ℕ) : Type 0 where
  pub contents : Contents
  pub read : g ≡ found contents at
  pub laid : t ≡ layout contents

-- what a reading of the whole file answers: the instrument of the contents, or the number of the fault
pub record Read (w : FileRead) (outs nexts : List ℕ) (g : Got Contents) : Type 0 where
  pub end : ℕ
  pub reached : Reached g (held w outs nexts) end

abbrev pub Laid : Result FileRead Refusal → List ℕ → List ℕ → Got Contents → Type 0
Laid (Ok w) outs nexts g = Read w outs nexts g
Laid (Err r) outs nexts g = g ≡ fault (number r)

-- the two places of a stretch that is found
pub record Places (p : Range ℕ) (g : Got Stretch) : Type 0 where
  pub start_is : p.start ≡ start_of g
  pub end_is : p.end ≡ end_of g

-- an answer says where something stands, or why nowhere
pub record Locates (r : Result (Range ℕ) Refusal) (g : Got Stretch) : Type 0 where
  pub told : Tells r g
  pub places : IfOk r (λ p. Places p g)

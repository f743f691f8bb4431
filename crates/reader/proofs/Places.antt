-- Where a component stands, in the steps of the code.
use mathlib.Core.Path.{◌≡◌, refl, sym, ap, subst, ◌∙◌}
use mathlib.Core.List.{List}
use lib.ListN.{length}
use lib.Dec.{ltb}
use borrow.Author.Tests.{le-ltb, lt-ltb}
use native.Mathlib.Omega.{arith}
use Prim.Native.Nat.{ℕ, ◌≤◌, ◌<◌}
use Rattle.std.specs.Prelude.{Result, Ok, Err}
use Rattle.std.specs.declared.ops.Range.{Range}
use Rattle.meaning.specs.File.Parser.{Got, found, fault, on}
use Rattle.meaning.specs.File.Number.{choose}
use Rattle.meaning.specs.File.Grammar.{Contents, limits, between, component, components, filled, driven_by, read_file}
use Rattle.meaning.specs.File.Stretches.{Stretch, stretch_of, located}
use Rattle.meaning.proofs.File.Lists.{on_assoc}
use Rattle.cursor.specs.Answers.{number}
use Rattle.cursor.specs.declared.Refusal.{Refusal}
use Rattle.instrument.specs.declared.Instrument.{Instrument}
use Rattle.instrument.specs.Layout.{layout}
use Rattle.parsing.specs.Stages.{times}
use Rattle.parsing.proofs.Parsers.{on_each}
use Rattle.tables.specs.Stages.{add_component, opened, read_first}
use Rattle.tables.proofs.Grammar.{counts_then, times_components}
use Rattle.reader.specs.Outcomes.{outcome_number, fault_number, Tells}
use Rattle.reader.specs.Steps.{Places, Locates}
use Rattle.reader.proofs.Found.{tells_found, tells_fault}

-- an answer has the number of what it tells
pub told_number : {A B : Type 0} (o : Result A Refusal) (g : Got B) → Tells o g → outcome_number o ≡ fault_number g
told_number (Ok x) (found a at) h = refl
told_number (Ok x) (fault r) h = absurd h
told_number (Err cause) (found a at) h = absurd h
told_number (Err cause) (fault r) h = h

pub locates_fault : (r : Refusal) (g : Got Stretch) → g ≡ fault (number r) → Locates (Err r) g
locates_fault r g e = record { told = tells_fault (Range ℕ) r g e; places = tt }

pub locates_found : (p : Range ℕ) (g : Got Stretch) (at : ℕ) → g ≡ found (record { start = p.start; end = p.end }) at → Locates (Ok p) g
locates_found p g at e =
    record { told = tells_found p g _ at e; places = subst (λ g. Places p g) (sym e) (record { start_is = refl; end_is = refl }) }

-- from the first components over one more: the two places
abbrev both_places : List ℕ → Got Contents → Got Stretch
both_places file g =
    on g (λ k start. on (add_component k file start) (λ m end. found (record { start = start; end = end }) end))

module _ (file : List ℕ) where
  stretch_stages : (c : ℕ) → stretch_of c file 0 ≡ both_places file (read_first c file 0)
  stretch_stages c =
      sym
      (ap (both_places file) (counts_then file (λ n W at. times c add_component (opened W) file at))
      ∙ on_assoc (between limits 1 limits.components 3 file 0) _ _
      ∙ on_each (between limits 1 limits.components 3 file 0) _ _
      (λ n at e. on_assoc (between limits 0 limits.signals 3 file at) _ _
      ∙ on_each (between limits 0 limits.signals 3 file at) _ _
      (λ W at e. ap (both_places file) (times_components file c W at)
      ∙ on_assoc (components limits filled W c file at) _ _
      ∙ on_each (components limits filled W c file at) _ _
      (λ cs at e. on_assoc (component limits filled W (driven_by 0 cs) file at) _ _))))

  -- the component that the code reads, or its fault
  module _ (c : ℕ) {k : Contents} {start : ℕ} (e : read_first c file 0 ≡ found k start) where
    pub stretch_fault : (r : ℕ) → add_component k file start ≡ fault r → stretch_of c file 0 ≡ fault r
    stretch_fault r f =
        stretch_stages c ∙ ap (both_places file) e ∙ ap (λ h. on h (λ m end. found (record { start = start; end = end }) end)) f

    pub stretch_found : (m : Contents) (end : ℕ) → add_component k file start ≡ found m end
        → stretch_of c file 0 ≡ found (record { start = start; end = end }) end
    stretch_found m end f =
        stretch_stages c ∙ ap (both_places file) e ∙ ap (λ h. on h (λ m end. found (record { start = start; end = end }) end)) f

  pub first_fault : (c r : ℕ) → read_first c file 0 ≡ fault r → stretch_of c file 0 ≡ fault r
  first_fault c r e = stretch_stages c ∙ ap (both_places file) e

-- an accepted file, and the asked component
module _ (file : List ℕ) (c : ℕ) where
  pub located_fault : (r : ℕ) → read_file file ≡ fault r → located file c ≡ fault r
  located_fault r e = ap (λ g. on g (λ k end. choose (ltb c (length k.components)) (stretch_of c file 0) (fault 3))) e

  module _ (k : Contents) (at : ℕ) (t : Instrument) (e : read_file file ≡ found k at) (h : t ≡ layout k) where
    pub located_beyond : t.components ≤ c → located file c ≡ fault 3
    located_beyond l =
        let n : t.components ≡ length k.components = ap (λ (u : Instrument). u.components) h in
        ap (λ g. on g (λ k end. choose (ltb c (length k.components)) (stretch_of c file 0) (fault 3))) e
        ∙ ap (λ b. choose b (stretch_of c file 0) (fault 3)) (le-ltb c (length k.components) (omega arith))

    pub located_within : c < t.components → located file c ≡ stretch_of c file 0
    located_within l =
        let n : t.components ≡ length k.components = ap (λ (u : Instrument). u.components) h in
        ap (λ g. on g (λ k end. choose (ltb c (length k.components)) (stretch_of c file 0) (fault 3))) e
        ∙ ap (λ b. choose b (stretch_of c file 0) (fault 3)) (lt-ltb c (length k.components) (omega arith))

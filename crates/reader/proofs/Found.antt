-- What the reader promises of an accepted file's instrument.
use mathlib.Core.Path.{◌≡◌, refl, sym, subst}
use mathlib.Core.List.{List}
use Prim.Native.Nat.{ℕ}
use Rattle.std.specs.Prelude.{Ok, Err}
use Rattle.meaning.specs.File.Parser.{Got, found, fault}
use Rattle.meaning.specs.File.Grammar.{read_file}
use Rattle.meaning.proofs.File.Reads.{file_promised}
use Rattle.cursor.specs.Answers.{number}
use Rattle.cursor.specs.declared.Refusal.{Refusal}
use Rattle.instrument.specs.declared.Instrument.{Instrument}
use Rattle.reader.specs.Outcomes.{Tells, Found}
use Rattle.reader.specs.Steps.{Reached}

-- what is told of something found, and of a fault
pub tells_found : {A B : Type 0} (a : A) (g : Got B) (b : B) (at : ℕ) → g ≡ found b at → Tells {A = A} (Ok a) g
tells_found a g b at e = subst (Tells (Ok a)) (sym e) tt

pub tells_fault : (A : Type 0) {B : Type 0} (r : Refusal) (g : Got B) → g ≡ fault (number r) → Tells {A = A} (Err r) g
tells_fault A r g e = subst (Tells {A = A} (Err r)) (sym e) refl

-- contents of the whole file that are reached
pub reached_found : (file : List ℕ) (t : Instrument) (at : ℕ) → Reached (read_file file) t at → Found file t
reached_found file t at p =
    record {
      contents = p.contents;
      end = at;
      read = p.read;
      describes = record { same = p.laid; promised = file_promised file p.contents at p.read };
    }

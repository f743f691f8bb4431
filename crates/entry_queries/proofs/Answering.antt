-- How an answer is made: from what the reader found, then from sizes and room. The laws serve every question that lends a buffer.
use mathlib.Core.Path.{◌≡◌, refl, sym, subst, ap}
use mathlib.Core.Bool.{Bool, true, false}
use mathlib.Core.List.{List}
use lib.Dec.{leb}
use lib.ListN.{length}
use native.Mathlib.Omega.{arith}
use borrow.Author.Tests.{le-leb, lt-leb}
use Prim.Native.Nat.{ℕ, ◌≤◌, ◌<◌}
use Rattle.std.specs.Prelude.{Result, Ok, Err}
use Rattle.meaning.specs.Instrument.{Instrument, Accepted}
use Rattle.meaning.specs.File.Parser.{Got, found, fault}
use Rattle.meaning.specs.File.Number.{choose}
use Rattle.meaning.specs.File.Grammar.{Contents, instrument_of, read_file}
use Rattle.answers.specs.Buffers.{Outcome, refused, entries, lent_after, fitting}
use Rattle.meaning.proofs.File.Accepted.{file_accepted}
use Rattle.cursor.specs.Answers.{number}
use Rattle.cursor.specs.declared.Refusal.{Refusal}
use Rattle.cursor.specs.declared.Refusal.TheVariants as refusals
use Rattle.instrument.specs.declared.Outline.{Outline}
use Rattle.reader.specs.Outcomes.{Tells, Found}
use Rattle.instrument.specs.declared.Instrument as code
use Rattle.answers.specs.Outcomes.{after, within}
use Rattle.answers.specs.Means.{Holds}
use Rattle.entry_queries.specs.Written.{written_number, Answered}

abbrev Written : Type 0
Written = Result ℕ Refusal

-- every refusal has a number above 0
pub number_some : (r : Refusal) → number r ≡ 0 → ⊥
number_some refusals.Ended e = absurd (omega arith)
number_some refusals.Form e = absurd (omega arith)
number_some refusals.Range e = absurd (omega arith)
number_some refusals.Order e = absurd (omega arith)
number_some refusals.Driven e = absurd (omega arith)
number_some refusals.Bits e = absurd (omega arith)
number_some refusals.Formula e = absurd (omega arith)
number_some refusals.Undriven e = absurd (omega arith)
number_some refusals.Start e = absurd (omega arith)
number_some refusals.Trailing e = absurd (omega arith)
number_some refusals.FullSize e = absurd (omega arith)
number_some refusals.MergedSize e = absurd (omega arith)
number_some refusals.Short e = absurd (omega arith)

-- what the reader found
pub refused_fault : (g : Got Contents) (cause : Refusal) → Tells {A = Outline} (Err cause) g → g ≡ fault (number cause)
refused_fault (found k end) cause h = absurd h
refused_fault (fault r) cause h = ap fault (sym h)

module _ (f : Instrument → Outcome) where
  -- a refused file: nothing is written
  pub file_refused : (g : Got Contents) (cause : Refusal) (old : List ℕ) → Tells {A = Outline} (Err cause) g → Answered (after g f) (Err cause) old old
  file_refused (found k end) cause old h = absurd h
  file_refused (fault r) cause old h = record { number = h; count = refl; buffer = refl }

  -- the same by the file's bytes
  pub refused_answered : (file old : List ℕ) (cause : Refusal) → Tells {A = Outline} (Err cause) (read_file file)
      → Answered (after (read_file file) f) (Err cause) old old
  refused_answered file old cause h = file_refused (read_file file) cause old h

  -- an accepted one: the outcome of its instrument
  pub file_answered : {file : List ℕ} {t : code.Instrument} (h : Found file t) {r : Written} {old new : List ℕ}
      → Answered (f (instrument_of h.contents)) r old new → Answered (after (read_file file) f) r old new
  file_answered h {r} {old} {new} a = subst (λ g. Answered (after g f) r old new) (sym h.read) a

-- a combination of so many states
module _ {old new : List ℕ} {r : Written} where
  pub within_room : (size n : ℕ) (o : Outcome) → size ≤ 4096 → Answered o r old new → Answered (within size n o) r old new
  within_room size n o h a = subst (λ b. Answered (choose b o (refused n)) r old new) (sym (le-leb size 4096 h)) a

pub oversized : (size : ℕ) (o : Outcome) (cause : Refusal) (old : List ℕ) → 4096 < size → Answered (within size (number cause) o) (Err cause) old old
oversized size o cause old h =
    subst (λ b. Answered (choose b o (refused (number cause))) (Err cause) old old) (sym (lt-leb size 4096 h))
    (record { number = refl; count = refl; buffer = refl })

-- a buffer with so much room
pub too_short : (vs old : List ℕ) → length old < length vs → Answered (fitting (length old) vs) (Err refusals.Short) old old
too_short vs old h =
    subst (λ b. Answered (choose b (entries vs) (refused 13)) (Err refusals.Short) old old) (sym (lt-leb (length vs) (length old) h))
    (record { number = refl; count = refl; buffer = refl })

pub written : (vs old new : List ℕ) (n : ℕ) → n ≡ length vs → length vs ≤ length old → new ≡ lent_after (entries vs) old
    → Answered (fitting (length old) vs) (Ok n) old new
written vs old new n e h b =
    subst (λ c. Answered (choose c (entries vs) (refused 13)) (Ok n) old new) (sym (le-leb (length vs) (length old) h))
    (record { number = refl; count = e; buffer = b })

-- an accepted answer: the entries are in the buffer
module _ (vs : List ℕ) (room : ℕ) {old new : List ℕ} {r : Written} where
  pub fitting_entries : Answered (fitting room vs) r old new → written_number r ≡ 0 → new ≡ lent_after (entries vs) old
  fitting_entries a z = go (leb (length vs) room) a
    where
      go : (b : Bool) → Answered (choose b (entries vs) (refused 13)) r old new → new ≡ lent_after (entries vs) old
      go true a = a.buffer
      go false a = absurd (omega (arith, a.number, z))

  pub within_entries : (size n : ℕ) → 0 < n → Answered (within size n (fitting room vs)) r old new → written_number r ≡ 0
      → new ≡ lent_after (entries vs) old
  within_entries size n p a z = go (leb size 4096) a
    where
      go : (b : Bool) → Answered (choose b (fitting room vs) (refused n)) r old new → new ≡ lent_after (entries vs) old
      go true a = fitting_entries a z
      go false a = absurd (omega (arith, a.number, z))

-- what they mean
pub means : (P : List ℕ → Instrument → Type 0) (words : Instrument → List ℕ)
    → ((I : Instrument) → Accepted I → (old : List ℕ) → P (lent_after (entries (words I)) old) I)
    → {file : List ℕ} {t : code.Instrument} (h : Found file t) (old new : List ℕ) → new ≡ lent_after (entries (words (instrument_of h.contents))) old
    → Holds (P new) file
means P words law {file} h old new e =
    record {
      contents = h.contents;
      end = h.end;
      read = h.read;
      fact = subst (λ l. P l (instrument_of h.contents)) (sym e)
          (law (instrument_of h.contents) (file_accepted file h.contents h.end h.read) old);
    }

-- How the lookup and the verdict are answered: from what the reader found, then from the asked state, the sizes and the stages.
use mathlib.Core.Path.{◌≡◌, refl, sym, subst, ap, ◌∙◌}
use mathlib.Core.Bool.{Bool, true, false, ◌&&◌}
use mathlib.Core.List.{List}
use lib.Dec.{T, eqb, ltb, leb, ltb→lt}
use lib.ListN.{get_or}
use native.Mathlib.Omega.{arith}
use borrow.Author.Tests.{lt-ltb, le-leb, lt-leb}
use Prim.Native.Nat.{ℕ, ◌≤◌, ◌<◌}
use Rattle.meaning.specs.Instrument.{Instrument, components, table}
use Rattle.meaning.specs.Verdict.{Answer}
use Rattle.meaning.specs.File.Number.{choose}
use Rattle.meaning.specs.File.Grammar.{Contents, instrument_of, read_file}
use Rattle.meaning.specs.Reference.Tests.{all_below}
use Rattle.meaning.specs.Reference.Answers.{merged_size}
use Rattle.meaning.proofs.Basic.Bounded.{all_out}
use Rattle.meaning.proofs.File.Accepted.{file_accepted}
use Rattle.cursor.specs.Answers.{number}
use Rattle.cursor.specs.declared.Refusal.{Refusal}
use Rattle.instrument.specs.declared.Outline.{Outline}
use Rattle.reader.specs.Outcomes.{Tells, Found}
use Rattle.instrument.specs.declared.Instrument as code
use Rattle.instrument.specs.Described.{Describes}
use Rattle.instrument.proofs.Bounds.{count_bounds}
use Rattle.instrument.proofs.Tables.{table_count, table_states}
use Rattle.merging.specs.Parts.{OfComponents}
use Rattle.merged_words.proofs.Lookup.{states_listed}
use Rattle.judgement.specs.declared.Judgement as code_judgement
use Rattle.judgement.specs.Judged.{judgement_of}
use Rattle.verdict.specs.Answers.{answer_of}
use Rattle.verdict.specs.declared.Oversized.{Oversized}
use Rattle.std.specs.Prelude.{Ok, Err}
use Rattle.answers.specs.Outcomes.{Reply, given, denied, reply_after, asks_state, looked_up, lookup_of, Judgement, judgement, verdict_of}
use Rattle.answers.specs.Means.{Holds, LookupMeans, VerdictMeans}
use Rattle.answers.proofs.Starts.{lookup_means, verdict_means}
use Rattle.entry_queries.proofs.Answering.{refused_fault}

-- a refused file, and an accepted one
module _ {X : Type 0} (f : Instrument → Reply X) where
  pub reply_refused : (file : List ℕ) (cause : Refusal) → Tells {A = Outline} (Err cause) (read_file file)
      → denied (number cause) ≡ reply_after (read_file file) f
  reply_refused file cause h = sym (ap (λ g. reply_after g f) (refused_fault (read_file file) cause h))

  pub reply_found : {file : List ℕ} {t : code.Instrument} (h : Found file t) {r : Reply X} → r ≡ f (instrument_of h.contents) → r ≡ reply_after (read_file file) f
  reply_found h e = e ∙ sym (ap (λ g. reply_after g f) h.read)

-- a refusal is no value, and a value is one
module _ {X : Type 0} where
  abbrev IsGiven : Reply X → Type 0
  IsGiven (given x) = Unit {0}
  IsGiven (denied n) = ⊥

  pub denied_given : {n : ℕ} {x : X} → denied n ≡ given x → ⊥
  denied_given e = subst IsGiven (sym e) tt

  abbrev value_or : X → Reply X → X
  value_or d (given x) = x
  value_or d (denied n) = d

  pub given_same : {x y : X} → given x ≡ given y → x ≡ y
  given_same {x} e = ap (value_or x) e

-- the asked state, component by component
module _ (t : code.Instrument) (k : Contents) (d : Describes t k) where
  abbrev I : Instrument
  I = instrument_of k

  -- an asked state is one of each component
  abbrev pub inside : List ℕ → ℕ → Bool
  inside s i = choose (ltb i (components I)) (ltb (get_or s i 0) (table I i).states) (eqb (get_or s i 0) 0)

  pub inside_by : (s : List ℕ) (i : ℕ) → choose (ltb i t.components) (ltb (get_or s i 0) (get_or t.states i 0)) (eqb (get_or s i 0) 0) ≡ inside s i
  inside_by s i = rw (table_count t k d, table_states t k d i) refl

  pub asked_below : (s : List ℕ) → asks_state I s ≡ true → (i : ℕ) → i < components I → get_or s i 0 < (table I i).states
  asked_below s e i l =
      let a = all_out 4 (inside s) (subst T (sym e) tt) i (omega (arith, table_count t k d, (count_bounds t k d).1)) in
      ltb→lt (get_or s i 0) (table I i).states
      (subst (λ b. T (choose b (ltb (get_or s i 0) (table I i).states) (eqb (get_or s i 0) 0))) (lt-ltb i (components I) l) a)

  pub asked_listed : (s : List ℕ) → asks_state I s ≡ true → OfComponents t s
  asked_listed s e = states_listed t k d s (asked_below s e)

-- the tests of four components
pub four_tests : (f : ℕ → Bool) (a b c e : Bool) → a ≡ f 0 → b ≡ f 1 → c ≡ f 2 → e ≡ f 3 → (e && (c && (b && a))) ≡ all_below 4 f
four_tests f a b c e p q r s = rw (p, q, r, s) (ap (λ x. f 3 && (f 2 && (f 1 && x))) (unit (f 0)))
  where
    unit : (b : Bool) → b ≡ (b && true)
    unit true = refl
    unit false = refl

-- the lookup's refusals and its answer
module _ (I : Instrument) (s : List ℕ) where
  pub asked_none : asks_state I s ≡ false → denied 9 ≡ lookup_of I s
  asked_none e = rw e refl

  pub looked_large : asks_state I s ≡ true → 4096 < merged_size I → denied 12 ≡ lookup_of I s
  looked_large e h = rw (e, lt-leb (merged_size I) 4096 h) refl

  pub looked : asks_state I s ≡ true → merged_size I ≤ 4096 → (b : Bool) → b ≡ looked_up I s → given b ≡ lookup_of I s
  looked e h b q = rw (e, le-leb (merged_size I) 4096 h) (ap given q)

  -- an answer was looked up
  pub looked_given : (b : Bool) → lookup_of I s ≡ given b → (asks_state I s ≡ true) × (b ≡ looked_up I s)
  looked_given b e = go (asks_state I s) (leb (merged_size I) 4096) refl e
    where
      go : (a m : Bool) → asks_state I s ≡ a → choose a (choose m (given (looked_up I s)) (denied 12)) (denied 9) ≡ given b
          → (asks_state I s ≡ true) × (b ≡ looked_up I s)
      go true true p e = (p, sym (given_same e))
      go true false p e = absurd (denied_given e)
      go false m p e = absurd (denied_given e)

-- what the answers mean
pub lookup_holds : {file : List ℕ} {t : code.Instrument} (h : Found file t) (s : List ℕ) (b : Bool) → lookup_of (instrument_of h.contents) s ≡ given b
    → Holds (LookupMeans s b) file
lookup_holds {file} {t} h s b e =
    let I = instrument_of h.contents in
    let (a, q) = looked_given I s b e in
    record {
      contents = h.contents;
      end = h.end;
      read = h.read;
      fact = subst (λ b. LookupMeans s b I) (sym q)
          (lookup_means I (file_accepted file h.contents h.end h.read) s (asked_below t h.contents h.describes s a));
    }

-- the verdict's cases
pub judged_is : (j : code_judgement.Judgement) → given (judgement_of j) ≡ judgement (answer_of (Ok j))
judged_is j = refl

pub oversized_is : (o : Oversized) → denied 12 ≡ judgement (answer_of (Err o))
oversized_is o = refl

judged_answer : (a : Answer) (j : Judgement) → judgement a ≡ given j → a ≡ Answer.judged j.verdict j.stage
judged_answer (Answer.judged v g) j e = let q = given_same e in ap (λ j. Answer.judged j.verdict j.stage) q
judged_answer Answer.oversized j e = absurd (denied_given e)

pub verdict_holds : {file : List ℕ} {t : code.Instrument} (h : Found file t) (j : Judgement) → judgement (verdict_of (instrument_of h.contents)) ≡ given j
    → Holds (VerdictMeans j) file
verdict_holds {file} h j e =
    let I = instrument_of h.contents in
    record {
      contents = h.contents;
      end = h.end;
      read = h.read;
      fact = verdict_means I (file_accepted file h.contents h.end h.read) j (judged_answer (verdict_of I) j e);
    }

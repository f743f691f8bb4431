-- Files that write the same but for spelled-out stays get the same answers (document 02, 2/14).
use mathlib.Core.Path.{◌≡◌, ◌∙◌, ap, refl, subst, sym}
use mathlib.Core.Logic.{◌↔◌, ◌≢◌}
use mathlib.Core.Bool.{Bool, true, false}
use mathlib.Core.List.{List, [], ◌∷◌}
use lib.Dec.{T, ltb, ltb→lt}
use lib.ListN.{length}
use native.Mathlib.Omega.{arith}
use Prim.Native.Nat.{ℕ}
use Rattle.meaning.specs.Instrument.{Instrument}
use Rattle.meaning.specs.File.Grammar.{Contents, read_file}
use Rattle.meaning.specs.File.Number.{choose}
use Rattle.meaning.specs.File.Parser.{Done, Got, done, fault, found, on}
use Rattle.meaning.specs.File.Promise.{no_component}
use Rattle.meaning.specs.File.Spelling.{SameButStays}
use Rattle.meaning.specs.File.Stretches.{located, stretch_of}
use Rattle.meaning.proofs.File.Spelling.{same_said}
use Rattle.meaning.proofs.File.Stretched.{component_stands, located_accepted}
use Rattle.answers.specs.Buffers.{Outcome}
use Rattle.answers.specs.Outcomes.{Reply, after, class_outcome, component_bytes_of, full_outcome, judgement, lookup_of, lookup_reply, mark_outcome, merged_outcome}
use Rattle.answers.specs.Outcomes.{reply_after, verdict_of, verdict_reply}
use Rattle.answers.specs.Lines.{judgement_line, lookup_line}
use Rattle.answers.specs.Listing.{class_lines, listing_outcome}
use Rattle.answers.specs.Printed.{printed, stretch_text, text_after}
use Rattle.answers.specs.Questions.{Question, full, marks, classes, merged, listing, verdict, stretch, lookup, unknown}
use Rattle.answers.specs.Same.{SameAnswers}

-- ---- whether a component's stretch is refused
no_fault : {A X : Type 0} {a : A} {at : ℕ} (r : ℕ) → found a at ≡ fault r → X
no_fault r e = let z : ◌≡◌ {A = ℕ} 0 1 = cc in let y : ⊥ = omega arith in absurd y

-- the number of a fault, whatever was to be found
fault_same : {A B : Type 0} (q r : ℕ) → ◌≡◌ {A = Got A} (fault q) (fault r) → ◌≡◌ {A = Got B} (fault q) (fault r)
fault_same q r h = ap (λ g. on g (λ a at. fault 0)) h

module _ (c : ℕ) where
  -- as what is read tells it: the file's first fault, then 3
  abbrev told : Got Contents → Got Done
  told g = on g (λ k end. choose (ltb c (length k.components)) (found done 0) (fault 3))

  module _ (file : List ℕ) (r : ℕ) where
    abbrev Says : Got Contents → Type 0
    Says g = (on g (λ k end. choose (ltb c (length k.components)) (stretch_of c file 0) (fault 3)) ≡ fault r) ↔ (told g ≡ fault r)

    -- an accepted file has the stretches of its components
    located_told : (located file c ≡ fault r) ↔ (told (read_file file) ≡ fault r)
    located_told = go (read_file file) refl
      where
        stands : (k : Contents) (end : ℕ) → read_file file ≡ found k end → (b : Bool) → ltb c (length k.components) ≡ b
            → (choose b (stretch_of c file 0) (fault 3) ≡ fault r) ↔ (choose b (found done 0) (fault 3) ≡ fault r)
        stands k end e false l = (fault_same 3 r, fault_same 3 r)
        stands k end e true l =
            let m = ltb→lt c (length k.components) (subst T (sym l) tt) in
            let s = component_stands file k end e c m no_component in
            let p : stretch_of c file 0 ≡ found s.stretch s.stretch.end = sym (located_accepted file k end e c m) ∙ s.is_located in
            (λ h. no_fault r (sym p ∙ h), λ h. no_fault r h)

        go : (g : Got Contents) → read_file file ≡ g → Says g
        go (found k end) e = stands k end e (ltb c (length k.components)) refl
        go (fault q) e = (fault_same q r, fault_same q r)

-- REQUEST 2/14: files that write the same but for spelled-out stays get the same answers
module _ (f g : List ℕ) (same : SameButStays f g) where
  after_same : (F : Instrument → Outcome) → after (read_file f) F ≡ after (read_file g) F
  after_same F = same_said f g same (λ r. after r F) (λ c e h. refl)

  reply_same : {X : Type 0} (F : Instrument → Reply X) → reply_after (read_file f) F ≡ reply_after (read_file g) F
  reply_same F = same_said f g same (λ r. reply_after r F) (λ c e h. refl)

  text_same : (F : Instrument → List ℕ) → text_after (read_file f) F ≡ text_after (read_file g) F
  text_same F = same_said f g same (λ r. text_after r F) (λ c e h. refl)

  told_same : (c : ℕ) → told c (read_file f) ≡ told c (read_file g)
  told_same c = same_said f g same (told c) (λ k e h. refl)

  number_same : (c r : ℕ) → (located f c ≡ fault r) ↔ (located g c ≡ fault r)
  number_same c r =
      let p = located_told c f r in
      let q = located_told c g r in
      (λ h. q.1 (sym (told_same c) ∙ p.0 h), λ h. p.1 (told_same c ∙ q.0 h))

  lookup_same : (asked : List ℕ) → lookup_reply f asked ≡ lookup_reply g asked
  unfolding lookup_reply
  lookup_same asked = reply_same (λ I. lookup_of I asked)

  verdict_same : verdict_reply f ≡ verdict_reply g
  unfolding verdict_reply
  verdict_same = reply_same (λ I. judgement (verdict_of I))

  print_same : (q : Question) → ((c : ℕ) → q ≢ stretch c) → printed q f ≡ printed q g
  unfolding printed
  print_same full n = text_same _
  print_same marks n = text_same _
  print_same classes n = text_same class_lines
  print_same merged n = text_same _
  print_same listing n = text_same _
  print_same verdict n = ap judgement_line verdict_same
  print_same (stretch c) n = absurd (n c refl)
  print_same (lookup s0 s1 s2 s3) n = ap lookup_line (lookup_same (s0 ∷ s1 ∷ s2 ∷ s3 ∷ []))
  print_same unknown n = refl

  refusal_same : (c r : ℕ) → located f c ≡ fault r → printed (stretch c) f ≡ printed (stretch c) g
  unfolding printed
  refusal_same c r h =
      ap (λ l. stretch_text l (component_bytes_of f c)) h ∙ sym (ap (λ l. stretch_text l (component_bytes_of g c)) ((number_same c r).0 h))

  pub same_answers : SameAnswers f g
  unfolding full_outcome mark_outcome class_outcome merged_outcome listing_outcome
  same_answers =
      record {
        full = λ room. after_same _;
        marks = λ room. after_same _;
        classes = λ room. after_same _;
        merged = λ room. after_same _;
        listing = λ room. after_same _;
        lookup = lookup_same;
        verdict = verdict_same;
        print = print_same;
        number = number_same;
        refusal = refusal_same;
      }

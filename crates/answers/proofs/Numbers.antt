-- The numbers of each question, and that 14 is none of them (document 02, 6/14).
use mathlib.Core.Path.{◌≡◌, refl, subst}
use mathlib.Core.Logic.{inl, inr}
use mathlib.Core.Bool.{Bool, true, false, ◌&&◌}
use mathlib.Core.List.{List, [], ◌∷◌}
use lib.Dec.{T, leb, leb→le}
use lib.ListN.{length}
use native.Mathlib.Omega.{arith}
use Prim.Native.Nat.{ℕ}
use Rattle.meaning.specs.Tests.{Any}
use Rattle.meaning.specs.Instrument.{Instrument}
use Rattle.meaning.specs.Verdict.{Answer, judged, oversized}
use Rattle.meaning.specs.File.Grammar.{Contents, instrument_of, read_file}
use Rattle.meaning.specs.File.Number.{choose}
use Rattle.meaning.specs.File.Parser.{Got, found, fault}
use Rattle.meaning.specs.File.Promise.{Within}
use Rattle.meaning.specs.Reference.Answers.{full_count, full_words, mark_words_of, class_names_of, merged_size, merged_words}
use Rattle.answers.specs.Buffers.{Outcome, refused, entries, fitting}
use Rattle.meaning.specs.Reference.Tests.{all_of}
use Rattle.meaning.proofs.Basic.Booleans.{and_l, and_r}
use Rattle.meaning.proofs.File.Faults.{file_faults, located_faults}
use Rattle.answers.specs.Outcomes.{Judgement, Reply, after, asks_state, class_outcome, denied, full_outcome, given, judgement, lookup_of}
use Rattle.answers.specs.Outcomes.{looked_up, lookup_reply, mark_outcome, merged_outcome, most_combined, reply_after, verdict_of, verdict_reply, within}
use Rattle.answers.specs.Listing.{listed, listing_outcome, listing_text}
use Rattle.answers.specs.Questions.{Question, full, marks, classes, merged, listing, verdict, stretch, lookup, unknown}
use Rattle.answers.specs.Numbers.{RefusedWith, own_numbers, OnSheet}

-- where it is refused, P holds of the number
module _ (P : ℕ → Type 0) where
  abbrev Refusing : Outcome → Type 0
  Refusing (refused r) = P r
  Refusing (entries vs) = Unit {0}

  abbrev Denying : {X : Type 0} → Reply X → Type 0
  Denying (denied r) = P r
  Denying (given x) = Unit {0}

  choose_refusing : (b : Bool) (o p : Outcome) → Refusing o → Refusing p → Refusing (choose b o p)
  choose_refusing true o p h k = h
  choose_refusing false o p h k = k

  choose_denying : {X : Type 0} (b : Bool) (o p : Reply X) → Denying o → Denying p → Denying (choose b o p)
  choose_denying true o p h k = h
  choose_denying false o p h k = k

  fitting_refusing : (room : ℕ) (vs : List ℕ) → P 13 → Refusing (fitting room vs)
  fitting_refusing room vs h = choose_refusing (leb (length vs) room) (entries vs) (refused 13) tt h

  within_refusing : (size r : ℕ) (o : Outcome) → Refusing o → P r → Refusing (within size r o)
  within_refusing size r o h k = choose_refusing (leb size most_combined) o (refused r) h k

  judged_denying : (a : Answer) → P 12 → Denying (judgement a)
  judged_denying (judged v g) h = tt
  judged_denying oversized h = h

  listed_refusing : (I : Instrument) (room : ℕ) (j : Reply Judgement) → Denying j → P 13 → Refusing (listed I room j)
  listed_refusing I room (given j) h k = fitting_refusing room (listing_text I j) k
  listed_refusing I room (denied r) h k = h

  lookup_denying : (I : Instrument) (s : List ℕ) → P 9 → P 12 → Denying (lookup_of I s)
  lookup_denying I s h k =
      let sized = choose (leb (merged_size I) most_combined) (given (looked_up I s)) (denied 12) in
      choose_denying (asks_state I s) sized (denied 9)
      (choose_denying (leb (merged_size I) most_combined) (given (looked_up I s)) (denied 12) tt k) h

-- after the file's own faults
module _ (q : Question) (file : List ℕ) where
  after_refusing : (f : Instrument → Outcome) → ((I : Instrument) → Refusing (OnSheet q) (f I))
      → (r : ℕ) → after (read_file file) f ≡ refused r → OnSheet q r
  after_refusing f h r e = subst (Refusing (OnSheet q)) e (go (read_file file) refl)
    where
      go : (g : Got Contents) → read_file file ≡ g → Refusing (OnSheet q) (after g f)
      go (found c end) e = h (instrument_of c)
      go (fault m) e = inl (file_faults file m e)

  after_denying : {X : Type 0} (f : Instrument → Reply X) → ((I : Instrument) → Denying (OnSheet q) (f I))
      → (r : ℕ) → reply_after (read_file file) f ≡ denied r → OnSheet q r
  after_denying f h r e = subst (Denying (OnSheet q)) e (go (read_file file) refl)
    where
      go : (g : Got Contents) → read_file file ≡ g → Denying (OnSheet q) (reply_after g f)
      go (found c end) e = h (instrument_of c)
      go (fault m) e = inl (file_faults file m e)

  -- words that a combination of so many states allows
  sized_refusing : (size : ℕ) (count : Instrument → ℕ) (room : ℕ) (words : Instrument → List ℕ) → OnSheet q size → OnSheet q 13
      → (r : ℕ) → after (read_file file) (λ I. within (count I) size (fitting room (words I))) ≡ refused r → OnSheet q r
  sized_refusing size count room words h k =
      after_refusing (λ I. within (count I) size (fitting room (words I))) (λ I.
      within_refusing (OnSheet q) (count I) size (fitting room (words I)) (fitting_refusing (OnSheet q) room (words I) k) h)

  room_refusing : (room : ℕ) (words : Instrument → List ℕ) → OnSheet q 13 → (r : ℕ)
      → after (read_file file) (λ I. fitting room (words I)) ≡ refused r → OnSheet q r
  room_refusing room words k = after_refusing (λ I. fitting room (words I)) (λ I. fitting_refusing (OnSheet q) room (words I) k)

-- every refusal of a question is on its sheet
pub sheet : (q : Question) (file : List ℕ) (r : ℕ) → RefusedWith q file r → OnSheet q r
unfolding full_outcome mark_outcome class_outcome merged_outcome lookup_reply verdict_reply listing_outcome
sheet full file r (room, e) = sized_refusing full file 11 full_count room full_words (inr (inl refl)) (inr (inr (inl refl))) r e
sheet marks file r (room, e) = room_refusing marks file room mark_words_of (inr (inl refl)) r e
sheet classes file r (room, e) = room_refusing classes file room class_names_of (inr (inl refl)) r e
sheet merged file r (room, e) = sized_refusing merged file 12 merged_size room merged_words (inr (inl refl)) (inr (inr (inl refl))) r e
sheet listing file r (room, e) =
    after_refusing listing file (λ I. listed I room (judgement (verdict_of I))) (λ I.
    listed_refusing (OnSheet listing) I room (judgement (verdict_of I)) (judged_denying (OnSheet listing) (verdict_of I) (inr (inl refl))) (inr (inr (inl refl)))) r e
sheet verdict file r e =
    after_denying verdict file (λ I. judgement (verdict_of I)) (λ I. judged_denying (OnSheet verdict) (verdict_of I) (inr (inl refl))) r e
sheet (stretch c) file r e = inl (located_faults file c r e)
sheet (lookup s0 s1 s2 s3) file r e =
    let q = lookup s0 s1 s2 s3 in
    let s = s0 ∷ s1 ∷ s2 ∷ s3 ∷ [] in
    after_denying q file (λ I. lookup_of I s) (λ I. lookup_denying (OnSheet q) I s (inl (omega arith, omega arith)) (inr (inl refl))) r e
sheet unknown file r e = absurd e

-- all of them are 1 to 13
pub numbers : (q : Question) (file : List ℕ) (r : ℕ) → RefusedWith q file r → Within 1 13 r
numbers q file r e = listed_at (sheet q file r e)
  where
    test : ℕ → Bool
    test m = leb 1 m && leb m 13

    tested : (q : Question) → T (all_of test (own_numbers q))
    tested full = tt
    tested marks = tt
    tested classes = tt
    tested merged = tt
    tested listing = tt
    tested verdict = tt
    tested (stretch c) = tt
    tested (lookup s0 s1 s2 s3) = tt
    tested unknown = tt

    own : (ms : List ℕ) → T (all_of test ms) → Any (λ m. r ≡ m) ms → Within 1 13 r
    own (m ∷ ms) h (inl e) =
        let t = and_l (test m) (all_of test ms) h in
        rw e (leb→le 1 m (and_l (leb 1 m) (leb m 13) t), leb→le m 13 (and_r (leb 1 m) (leb m 13) t))
    own (m ∷ ms) h (inr e) = own ms (and_r (test m) (all_of test ms) h) e
    own [] h x = elim x [ ]

    listed_at : OnSheet q r → Within 1 13 r
    listed_at (inl w) = (w.0, omega (arith, w.1))
    listed_at (inr e) = own (own_numbers q) (tested q) e

-- REQUEST 6/14: no question is refused with 14
pub never_14 : (q : Question) (file : List ℕ) → RefusedWith q file 14 → ⊥
never_14 q file e = absurd (omega (arith, (numbers q file 14 e).1))

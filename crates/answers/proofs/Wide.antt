-- 12/14 from bytes: components of 64 states, alone and combined, and marks of 64 bits as they are printed.
use mathlib.Core.Path.{◌≡◌, refl}
use mathlib.Core.Bool.{Bool, false, ◌&&◌}
use mathlib.Core.List.{List, [], ◌∷◌, ◌++◌}
use lib.Dec.{T, leb, ltb, ltb→lt}
use lib.ListN.{length, replicate}
use native.Mathlib.Omega.{arith}
use borrow.Author.Tests.{lt-leb}
use Prim.Native.Nat.{ℕ}
use Rattle.words.specs.Sets.{digit, built, insert}
use Rattle.meaning.specs.File.Number.{groups}
use Rattle.meaning.specs.File.Parser.{Got, fault, found, list_of}
use Rattle.meaning.specs.File.Grammar.{Contents, instrument_of, read_file, with_all, between, less_than, signal, component, named, node, whole}
use Rattle.meaning.specs.Reference.Answers.{full_count, full_word, full_words}
use Rattle.answers.specs.Buffers.{entries, fitting, refused}
use Rattle.meaning.specs.WideCases.{every, loose}
use Rattle.meaning.proofs.Basic.Booleans.{and_l, and_r, is_true}
use Rattle.meaning.proofs.Basic.Entries.{list_length}
use Rattle.answers.specs.Listing.{decimal}
use Rattle.answers.specs.Outcomes.{after, class_outcome, full_outcome, mark_outcome, merged_outcome, most_combined, within}
use Rattle.answers.specs.Printed.{printed}
use Rattle.answers.specs.Questions.{marks}

-- a component of so many states without signals: every state stays in state 0
abbrev staying : ℕ → List ℕ
staying states = (states ∷ 0 ∷ 0 ∷ []) ++ (replicate states 0 ++ replicate states 1)

-- 64 and 64 states, which combine; and 64, 64 and 2, which do not; the formula true
abbrev pub two : List ℕ
two = (2 ∷ 0 ∷ []) ++ (staying 64 ++ (staying 64 ++ (1 ∷ 0 ∷ 0 ∷ [])))

abbrev pub three : List ℕ
three = (3 ∷ 0 ∷ []) ++ (staying 64 ++ (staying 64 ++ (staying 2 ++ (1 ∷ 0 ∷ 0 ∷ []))))

-- so many combined states are built, and their words do not fit into the room
abbrev built_b : ℕ → Got Contents → Bool
built_b room (found k end) = leb (full_count (instrument_of k)) most_combined && ltb room (full_count (instrument_of k))
built_b room (fault r) = false

pub full_short : (file : List ℕ) (room : ℕ) → T (built_b room (read_file file)) → full_outcome file room ≡ refused 13
unfolding full_outcome
full_short file room h = go (read_file file) h
  where
    go : (g : Got Contents) → T (built_b room g) → after g (λ I. within (full_count I) 11 (fitting room (full_words I))) ≡ refused 13
    go (fault r) h = absurd h
    go (found k end) h =
        let n = full_count (instrument_of k) in
        let l = ltb→lt room n (and_r (leb n most_combined) (ltb room n) h) in
        rw (is_true (leb n most_combined) (and_l (leb n most_combined) (ltb room n) h), lt-leb (length (full_words (instrument_of k))) room (omega (arith, l, list_length n (full_word (instrument_of k))))) refl

-- 4,096 states: not refused with 11, but with 13 in room for one word fewer
pub full_two : full_outcome two 4095 ≡ refused 13
unfolding digit built insert with_all groups list_of between less_than signal component named node whole
full_two = full_short two 4095 tt

-- number 11 comes before 13
pub full_three : (full_outcome three 0 ≡ refused 11) × (full_outcome three 8192 ≡ refused 11)
unfolding full_outcome digit built insert with_all groups list_of between less_than signal component named node whole
full_three = (refl, refl)

-- all of them are one class, so the merged combination has one state
pub merged_three : merged_outcome three 1 ≡ entries (1 ∷ [])
unfolding merged_outcome digit built insert with_all groups list_of between less_than signal component named node whole
merged_three = refl

pub marks_64 : (mark_outcome (loose 64 every) 1 ≡ refused 13) × (mark_outcome (loose 64 every) 2 ≡ entries (18446744073709551615 ∷ 0 ∷ []))
unfolding mark_outcome digit built insert with_all groups list_of between less_than signal component named node whole
marks_64 = (refl, refl)

pub names_64 : (class_outcome (loose 64 every) 63 ≡ refused 13) × (class_outcome (loose 64 every) 64 ≡ entries (replicate 64 0))
unfolding class_outcome digit built insert with_all groups list_of between less_than signal component named node whole
names_64 = (refl, refl)

-- "component 0 node 0 PASS 18446744073709551615 FAIL 0"
pub printed_64 : printed marks (loose 64 every)
    ≡ 99 ∷ 111 ∷ 109 ∷ 112 ∷ 111 ∷ 110 ∷ 101 ∷ 110 ∷ 116 ∷ 32 ∷ 48 ∷ 32 ∷ 110 ∷ 111 ∷ 100 ∷ 101 ∷ 32 ∷ 48 ∷ 32 ∷ 80 ∷ 65 ∷ 83 ∷ 83 ∷ 32 ∷ 49 ∷ 56 ∷ 52 ∷ 52 ∷ 54 ∷ 55 ∷ 52 ∷ 52 ∷ 48 ∷ 55 ∷ 51 ∷ 55 ∷ 48 ∷ 57 ∷ 53 ∷ 53 ∷ 49 ∷ 54 ∷ 49 ∷ 53 ∷ 32 ∷ 70 ∷ 65 ∷ 73 ∷ 76 ∷ 32 ∷ 48 ∷ 10 ∷ []
unfolding printed decimal digit built insert with_all groups list_of between less_than signal component named node whole
printed_64 = refl

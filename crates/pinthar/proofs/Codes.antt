-- Answers as numbers: a question's outcome from its number, and that no refusal is mistaken for an answer.
use mathlib.Core.Path.{◌≡◌, refl, sym, ap, ap₂, subst, ◌∙◌}
use mathlib.Core.Bool.{Bool, true, false}
use mathlib.Core.List.{List}
use native.Mathlib.Omega.{arith}
use lib.ListN.{take, drop}
use Prim.Native.Nat.{ℕ, zero, suc, ◌+◌, ◌-◌, ◌*◌, ◌/◌, ◌^◌, ◌≤◌, ◌<◌}
use Rattle.meaning.specs.Verdict.{Verdict, Stage, holds, fails, marks, merged}
use Rattle.meaning.specs.File.Parser.{Got, found, fault}
use Rattle.meaning.specs.File.Stretches.{Stretch, located, start_of, end_of}
use Rattle.meaning.proofs.File.Ended.{inside, short}
use Rattle.answers.specs.Buffers.{Outcome, refused, entries, outcome_number}
use Rattle.cursor.specs.Answers.{number}
use Rattle.cursor.specs.declared.Refusal.{Refusal}
use Rattle.answers.specs.Outcomes.{outcome_count, given, Judgement, bytes_of, component_bytes_of}
use Rattle.answers.specs.Means.{HasComponent, StretchMeans}
use Rattle.answers.proofs.Parts.{has_component, own_part}
use Rattle.std.specs.Prelude.{Result, Ok, Err}
use Rattle.std.specs.declared.ops.Range.{Range}
use Rattle.judgement.specs.declared.Judgement as code
use Rattle.judgement.specs.Judged as judged
use Rattle.reader.specs.Outcomes.{fault_number, Tells}
use Rattle.entry_queries.specs.Written.{Answered, written_number, written_count}
use Rattle.value_queries.specs.Told.{looked_reply, judged_reply}
use Rattle.entry_queries.proofs.Answering.{number_some}
use Rattle.pinthar.specs.Numbers.{Returned, outcome_code, coded, written_code, lookup_code, truth_code, told_code, judgement_code, verdict_code}
use Rattle.pinthar.specs.Numbers.{component_code, place_in, size_in}

-- a refusal's code is not small
refusal_large : {X : Type 0} (c : Refusal) → number c * 2 ^ 32 < 2 ^ 32 → X
refusal_large c l = absurd (number_some c (omega (arith, l)))

-- a written answer has the code of its outcome
same_code : (o : Outcome) (w : Result ℕ Refusal) → written_number w ≡ outcome_number o → written_count w ≡ outcome_count o → written_code w ≡ outcome_code o
same_code (refused r) (Err c) n k = ap (λ x. x * 2 ^ 32) n
same_code (refused r) (Ok m) n k = omega (arith, n, k)
same_code (entries vs) (Err c) n k = absurd (number_some c n)
same_code (entries vs) (Ok m) n k = k

module _ {o : Outcome} {w : Result ℕ Refusal} {r : ℕ} {old new : List ℕ} where
  pub returned : Answered o w old new → r ≡ written_code w → Returned o r old new
  returned a e = record { code = e ∙ same_code o w a.number a.count; buffer = a.buffer }

  -- a result below 2 ^ 32 is no refusal: both clauses of a call
  pub both : {X : Type 0} → Answered o w old new → (written_number w ≡ 0 → X) → r ≡ written_code w → Returned o r old new × (r < 2 ^ 32 → X)
  both a m e = (returned a e, λ l. m (accepted w (omega (arith, e, l))))
    where
      accepted : (w : Result ℕ Refusal) → written_code w < 2 ^ 32 → written_number w ≡ 0
      accepted (Err c) l = refusal_large c l
      accepted (Ok m) l = refl

-- a value's code is that of its reply
pub looked_code : (l : Result Bool Refusal) → coded truth_code l ≡ lookup_code (looked_reply l)
looked_code (Ok b) = refl
looked_code (Err c) = refl

pub judged_code : (a : Result code.Judgement Refusal) → coded (λ j. told_code (judged.judgement_of j)) a ≡ verdict_code (judged_reply a)
judged_code (Ok j) = refl
judged_code (Err c) = refl

-- the lookup's code gives the truth
pub looked_same : (l : Result Bool Refusal) (b : Bool) → lookup_code (looked_reply l) ≡ truth_code b → looked_reply l ≡ given b
looked_same (Ok true) true e = refl
looked_same (Ok false) false e = refl
looked_same (Ok true) false e = absurd (omega (arith, e))
looked_same (Ok false) true e = absurd (omega (arith, e))
looked_same (Err c) true e = refusal_large c (omega (arith, e))
looked_same (Err c) false e = refusal_large c (omega (arith, e))

-- the verdict's code gives the verdict and its stage
abbrev judgement_of : ℕ → Judgement
judgement_of zero = record { verdict = fails; stage = marks }
judgement_of (suc zero) = record { verdict = holds; stage = marks }
judgement_of (suc (suc zero)) = record { verdict = fails; stage = merged }
judgement_of (suc (suc (suc n))) = record { verdict = holds; stage = merged }

of_code : (v : Verdict) (g : Stage) → judgement_of (judgement_code v g) ≡ record { verdict = v; stage = g }
of_code holds marks = refl
of_code fails marks = refl
of_code holds merged = refl
of_code fails merged = refl

small_code : (v : Verdict) (g : Stage) → judgement_code v g < 4
small_code holds marks = omega arith
small_code fails marks = omega arith
small_code holds merged = omega arith
small_code fails merged = omega arith

same_judgement : (i j : Judgement) → verdict_code (given i) ≡ verdict_code (given j) → given i ≡ given j
same_judgement i j e =
    ap given (sym (of_code i.verdict i.stage) ∙ (ap judgement_of e ∙ of_code j.verdict j.stage))

pub judged_same : (a : Result code.Judgement Refusal) (j : Judgement) → verdict_code (judged_reply a) ≡ verdict_code (given j) → judged_reply a ≡ given j
judged_same (Ok h) j e = same_judgement _ j e
judged_same (Err c) j e = refusal_large c (omega (arith, e, small_code j.verdict j.stage))

-- a component's part: the code of an answer, and of a refusal
pub code_answered : (g : Got Stretch) → 0 ≡ fault_number g → start_of g * 2 ^ 16 + (end_of g - start_of g) ≡ component_code g
code_answered (found s at) z = refl
code_answered (fault r) z = omega (arith, z)

pub code_refused : (g : Got Stretch) (c : Refusal) → number c ≡ fault_number g → number c * 2 ^ 32 ≡ component_code g
code_refused (found s at) c e = absurd (number_some c e)
code_refused (fault r) c e = ap (λ n. n * 2 ^ 32) e

-- the upper 32 bits are the refusal's number, the lower 32 the place and the size
pub record ComponentParts (g : Got Stretch) : Type 0 where
  pub refusal : component_code g / 2 ^ 32 ≡ fault_number g
  pub place : place_in (component_code g) ≡ start_of g
  pub size : size_in (component_code g) ≡ end_of g - start_of g

code_parts : (g : Got Stretch) → start_of g ≤ end_of g → end_of g < 2 ^ 16 → ComponentParts g
code_parts (found s at) l h = record { refusal = omega arith; place = omega arith; size = omega arith }
code_parts (fault r) l h = record { refusal = omega arith; place = omega arith; size = omega arith }

pub component_parts : (file : List ℕ) (c : ℕ) → ComponentParts (located file c)
component_parts file c = code_parts (located file c) (inside file c).0 (short file c)

-- so a caller gets the component's own bytes
pub component_taken : (file : List ℕ) (c r : ℕ) → r ≡ component_code (located file c)
    → take (size_in r) (drop (place_in r) file) ≡ component_bytes_of file c
component_taken file c r e =
    let p = component_parts file c in
    ap (λ r. take (size_in r) (drop (place_in r) file)) e ∙ ap₂ (λ n at. take n (drop at file)) p.size p.place

-- a result below 2 ^ 32 is an answer, and there is one where the file has the component
pub component_both : (file : List ℕ) (c r : ℕ) (o : Result (Range ℕ) Refusal) → Tells o (located file c) → r ≡ component_code (located file c)
    → (r < 2 ^ 32 → StretchMeans file c (take (size_in r) (drop (place_in r) file))) × (HasComponent file c → r < 2 ^ 32)
component_both file c r o h e = go o (located file c) refl h
  where
    go : (o : Result (Range ℕ) Refusal) (g : Got Stretch) → located file c ≡ g → Tells o g
        → (r < 2 ^ 32 → StretchMeans file c (take (size_in r) (drop (place_in r) file))) × (HasComponent file c → r < 2 ^ 32)
    go (Ok p) (found s at) q t = (
      λ l. subst (StretchMeans file c) (sym (component_taken file c r e)) (own_part file c (has_component file c s at q)),
      λ h. omega (arith, e ∙ ap component_code q, sym (ap end_of q), short file c, (inside file c).0, sym (ap start_of q)),
    )
    go (Ok p) (fault n) q t = absurd t
    go (Err cause) (found s at) q t = absurd t
    go (Err cause) (fault n) q t = (
      λ l. refusal_large cause (omega (arith, e ∙ ap component_code q, t, l)),
      λ h. absurd ((own_part file c h).some (ap (bytes_of file) q)),
    )

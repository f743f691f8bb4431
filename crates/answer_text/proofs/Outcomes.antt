-- The text of an outcome, and what an answer says of it.
use mathlib.Core.Path.{◌≡◌, refl, sym, ap, ap₂, ◌∙◌}
use mathlib.Core.List.{List, [], ◌++◌}
use lib.ListN.{length, take, drop}
use lib.Seq.{take-append_seam}
use native.Mathlib.Omega.{arith}
use Prim.Native.Nat.{ℕ, ◌≤◌}
use Rattle.std.specs.Prelude.{Ok, Err}
use Rattle.answers.specs.Buffers.{Outcome, refused, entries, lent_after}
use Rattle.cursor.specs.Answers.{number}
use Rattle.cursor.specs.declared.Refusal.{Refusal}
use Rattle.answers.specs.Listing.{refusal_line_of}
use Rattle.entry_queries.specs.Written.{Answered}
use Rattle.entry_queries.proofs.Answering.{number_some}

-- bytes put into an empty vector
pub put_first : (w : List ℕ) {old new : List ℕ} → old ≡ [] → new ≡ old ++ w → new ≡ w
put_first w e p = p ∙ ap (λ o. o ++ w) e

abbrev pub outcome_text : (List ℕ → List ℕ) → Outcome → List ℕ
outcome_text f (refused r) = refusal_line_of r
outcome_text f (entries vs) = f vs

-- a refusal has a number above 0
abbrev pub Numbered : Outcome → Type 0
Numbered o = (r : ℕ) → o ≡ refused r → 1 ≤ r

-- a refused answer
pub refused_text : (f : List ℕ → List ℕ) (o : Outcome) (cause : Refusal) {old new : List ℕ} → Answered o (Err cause) old new
    → refusal_line_of (number cause) ≡ outcome_text f o
refused_text f (refused r) cause a = ap refusal_line_of a.number
refused_text f (entries vs) cause a = absurd (number_some cause a.number)

-- the entries in front of a buffer
pub taken : (vs old new : List ℕ) (n : ℕ) → n ≡ length vs → new ≡ lent_after (entries vs) old → take n new ≡ vs
taken vs old new n c b = ap₂ (λ n l. take n l) c b ∙ take-append_seam vs (drop (length vs) old)

-- an answer that was given: its entries stand in front of the buffer
pub record Entered (f : List ℕ → List ℕ) (o : Outcome) (n : ℕ) (new : List ℕ) : Type 0 where
  pub fits : n ≡ length (take n new)
  pub text : f (take n new) ≡ outcome_text f o

pub entered : (f : List ℕ → List ℕ) (o : Outcome) → Numbered o → (n : ℕ) {old new : List ℕ} → Answered o (Ok n) old new → Entered f o n new
entered f (refused r) p n a = absurd (omega (arith, p r refl, a.number))
entered f (entries vs) p n {old} {new} a =
    record {
      fits = a.count ∙ sym (ap length (taken vs old new n a.count a.buffer));
      text = ap f (taken vs old new n a.count a.buffer);
    }

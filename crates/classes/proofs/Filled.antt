-- Rows filled one state after the other: start, turn and end of the loop, and what it makes where each row is known.
use mathlib.Core.Path.{◌≡◌, sym, subst, ap, ◌∙◌}
use mathlib.Core.List.{List}
use lib.ListN.{get_or, set, replicate, length-set, length-replicate}
use lib.Seq.{get_or-set_same, get_or-set_other}
use native.Mathlib.Decide.{ℕ_discrete}
use native.Mathlib.Omega.{arith}
use Prim.Native.Nat.{ℕ, ◌+◌, ◌≤◌, ◌<◌}
use Rattle.meaning.specs.File.Grammar.{most_states}
use Rattle.classes.specs.Rows.{padded, RowsOf}
use Rattle.classes.proofs.Padded.{padded_is, padded_none, padded_past}

pub filled_start : (P : ℕ → ℕ → Type 0) → RowsOf P 0 (replicate most_states 0)
filled_start P =
    record {
      long = length-replicate {A = ℕ} most_states 0;
      each = λ x l. absurd (omega arith);
      past = λ x l. ap (λ r. get_or r x 0) (padded_none most_states (λ x. 0)) ∙ padded_past most_states 0 (λ x. 0) x (omega arith);
    }

pub filled_more : {P : ℕ → ℕ → Type 0} {n : ℕ} {r : List ℕ} → RowsOf P n r → n < most_states → {v : ℕ} → P n v → RowsOf P (n + 1) (set r n v)
filled_more {P} {n} {r} h l {v} p =
    record {
      long = length-set r n v ∙ h.long;
      each = λ x k.
          elim (ℕ_discrete x n) [
            | yes e ↦ subst (λ x. P x (get_or (set r n v) x 0)) (sym e) (subst (P n) (sym (get_or-set_same r n v 0 (omega (arith, h.long)))) p)
            | no e ↦ subst (P x) (sym (get_or-set_other r n x v 0 e)) (h.each x (omega arith))
          ];
      past = λ x k. get_or-set_other r n x v 0 (λ e. omega arith) ∙ h.past x (omega arith);
    }

pub filled_end : {P : ℕ → ℕ → Type 0} {n k : ℕ} {r : List ℕ} → RowsOf P k r → k ≤ n → n ≤ k → RowsOf P n r
filled_end {P} {r = r} h l m = subst (λ n. RowsOf P n r) (omega arith) h

-- each row is known
pub filled_is : {P : ℕ → ℕ → Type 0} {n : ℕ} {r : List ℕ} → RowsOf P n r → n ≤ most_states → {f : ℕ → ℕ} → ((x w : ℕ) → x < n → P x w → w ≡ f x)
    → r ≡ padded most_states n f
filled_is {n = n} {r = r} h m {f} e =
    padded_is most_states n f r m h.long (λ x l. e x (get_or r x 0) l (h.each x l)) (λ x l k. h.past x l)

-- Rows decide what their test decides.
use mathlib.Core.Path.{sym, subst}
use mathlib.Core.Bool.{Bool}
use lib.Dec.{T}
use Prim.Native.Nat.{ℕ, ◌≤◌}
use Rattle.meaning.proofs.Basic.Decides.{DecidesPairs}
use Rattle.meaning.specs.File.Grammar.{most_states}
use Rattle.classes.specs.Rows.{rel, rows}
use Rattle.classes.proofs.Rows.{rel_rows_lem}

pub rows_decide : {n : ℕ} {b : ℕ → ℕ → Bool} {R : ℕ → ℕ → Type 0} → n ≤ most_states → DecidesPairs n b R → DecidesPairs n (rel (rows n b)) R
rows_decide {n} {b} m d =
    record {
      sound = λ x y l k h. d.sound x y l k (subst T (rel_rows_lem n b x y m l k) h);
      whole = λ x y l k h. subst T (sym (rel_rows_lem n b x y m l k)) (d.whole x y l k h);
    }

-- Pieces f 0, f 1, .. put one after the other behind what a vector has.
use mathlib.Core.Path.{◌≡◌, ap, ◌∙◌}
use mathlib.Core.List.{List, ◌++◌, append_assoc}
use lib.ListN.{length, length-append}
use native.Mathlib.Omega.{arith}
use Prim.Native.Nat.{ℕ, suc, ◌+◌, ◌<◌}
use Rattle.arrayvec.specs.ArrayVec.{ArrayVec, Extends}
use Rattle.meaning.specs.Reference.Answers.{join_below}
use Rattle.meaning.proofs.Basic.Entries.{join_fits}
use Rattle.text.specs.Texts.{Room}

pub room_same : {l m : List ℕ} {cap : ℕ} (out : ArrayVec ℕ) → m ≡ l → Room l cap out → Room m cap out
room_same out e h = omega (arith, h, ap length e)

-- room for a part and the rest after it has room for the part
pub room_first : (l m : List ℕ) {cap : ℕ} (out : ArrayVec ℕ) → Room (l ++ m) cap out → Room l cap out
room_first l m out h = omega (arith, h, length-append l m)

module _ (f : ℕ → List ℕ) (old : ArrayVec ℕ) where
  -- room for the next one
  pub appending_room : (n cap i : ℕ) (mid : ArrayVec ℕ) → Room (join_below n f) cap old → i < n → Extends old (join_below i f) mid → Room (f i) cap mid
  appending_room n cap i mid h l p = omega (arith, h, ap length p, length-append old.items (join_below i f), join_fits f n i l)

  pub appending_more : (i : ℕ) (mid new : ArrayVec ℕ) → Extends old (join_below i f) mid → Extends mid (f i) new → Extends old (join_below (i + 1) f) new
  appending_more i mid new p q =
      let e : i + 1 ≡ suc i = omega arith in
      rw e (q ∙ ap (λ l. l ++ f i) p ∙ append_assoc old.items (join_below i f) (f i))

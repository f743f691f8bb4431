-- An array that a closure made element by element.
use mathlib.Core.Path.{◌≡◌, sym, subst, ◌∙◌}
use mathlib.Core.List.{List}
use Prim.Native.Nat.{ℕ, zero, suc, ◌+◌, ◌≤◌, ◌<◌}
use native.Mathlib.Decide.{ℕ_discrete}
use native.Mathlib.Omega.{arith}
use lib.ListN.{get_or}
use lib.Seq.{ext_get_or}
use denote.Param.Members.{Mut, Called}
use Rattle.std.specs.Array.{IsFromFnResultFrom, IsFromFnResult}
use Rattle.meaning.specs.Reference.Answers.{list_below}
use Rattle.meaning.proofs.Basic.Entries.{list_length, list_at}

module _
    {F : Type 0}
    {g : Mut F (ℕ × Unit {0}) ℕ}
    {f : F}
    (h : ℕ → ℕ)
    (step : (i y : ℕ) (q : F) → Called g f (i, tt) y q → (q ≡ f) × (y ≡ h i))
  where
    entries : (r : List ℕ) (n i : ℕ) → IsFromFnResultFrom g f r i n → (k : ℕ) → i ≤ k → k < i + n → get_or r k 0 ≡ h k
    entries r zero i m k l u = absurd (omega arith)
    entries r (suc n) i m k l u =
        let (q, y, e, c, rest) = m in
        let (stays, is) = step i y q c in
        elim (ℕ_discrete k i) [
          | yes z ↦ rw z (e.1 0 ∙ is)
          | no z ↦ entries r n (i + 1) (subst (λ p. IsFromFnResultFrom g p r (i + 1) n) stays rest) k (omega arith) (omega arith)
        ]

    -- it lists what the closure gives
    pub made_list : {r : List ℕ} {n : ℕ} → IsFromFnResult g f r n → r ≡ list_below n h
    made_list {r} {n} m =
        ext_get_or 0 r (list_below n h) (m.long ∙ sym (list_length n h)) (λ k l.
        entries r n 0 m.each k (omega arith) (omega (arith, m.long)) ∙ sym (list_at n h 0 k (omega (arith, m.long))))

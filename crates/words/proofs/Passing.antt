-- Start, turn and end of a loop over the members of a set, for every width.
use mathlib.Core.Path.{◌≡◌, subst, sym}
use mathlib.Core.Logic.{◌⊎◌, inl, inr, ◌≢◌}
use lib.Dec.{T}
use native.Mathlib.Decide.{ℕ_discrete}
use native.Mathlib.Omega.{arith}
use Prim.Native.Nat.{ℕ, ◌^◌, ◌<◌}
use Rattle.words.specs.Sets.{has, without, lowest, Lowest}
use Rattle.words.specs.Passing.{Passing}
use Rattle.words.proofs.Members.{has_lt, has_none, some_member}
use Rattle.words.proofs.Built.{less_in, less_out, less_falls}
use Rattle.words.proofs.Counts.{lowest_is}

-- a word that is not 0 has a lowest member
pub lowest_some : (k w : ℕ) → w < 2 ^ k → w ≢ 0 → Lowest k w (lowest k w)
lowest_some k w f n = let m = some_member k w f n in lowest_is k w m.0 m.1 m.2

pub passing_start : (w : ℕ) (P : ℕ → Type 0) → Passing w w P
passing_start w P = record { less = omega arith; within = λ t h. h; passed = λ t h. inl h }

module _ (k : ℕ) {w rest : ℕ} {P : ℕ → Type 0} (h : Passing w rest P) (f : w < 2 ^ k) (n : rest ≢ 0) where
  wide : rest < 2 ^ k
  wide = omega (arith, h.less)

  pub passing_lowest : Lowest k rest (lowest k rest)
  passing_lowest = lowest_some k rest wide n

  -- the lowest is a member of w
  pub passing_next : T (has w (lowest k rest))
  passing_next = h.within (lowest k rest) passing_lowest.member

  module _ {left : ℕ} (e : left ≡ without k rest (lowest k rest)) where
    -- the loop comes to an end
    pub passing_less : left < rest
    unfolding without
    passing_less = rw e (less_falls k rest (lowest k rest) passing_lowest.member)

    -- it is passed, and what held of the others still holds
    pub passing_more : {Q : ℕ → Type 0} → ((t : ℕ) → P t → Q t) → Q (lowest k rest) → Passing w left Q
    unfolding without
    passing_more {Q} m q =
        record {
          less = omega (arith, passing_less, h.less);
          within = λ t i. h.within t (less_out k rest z t (subst (λ v. T (has v t)) e i)).1;
          passed = λ t i. on t (h.passed t i);
        }
      where
        z : ℕ
        z = lowest k rest

        on : (t : ℕ) → T (has rest t) ⊎ P t → T (has left t) ⊎ Q t
        on t (inl i) =
            elim (ℕ_discrete z t) [
              | yes p ↦ inr (subst Q p q)
              | no p ↦ inl (subst (λ v. T (has v t)) (sym e) (less_in k rest z t (has_lt k rest t wide i) p i))
            ]
        on t (inr p) = inr (m t p)

-- taking the lowest out leaves less
pub taken_less : (k : ℕ) {w left : ℕ} → w < 2 ^ k → w ≢ 0 → left ≡ without k w (lowest k w) → left < w
taken_less k {w} f n e = passing_less k (passing_start w (λ t. Unit {0})) f n e

pub passing_end : {w : ℕ} {P : ℕ → Type 0} → Passing w 0 P → (t : ℕ) → T (has w t) → P t
passing_end {P = P} h t i = on (h.passed t i)
  where
    on : T (has 0 t) ⊎ P t → P t
    on (inl z) = absurd (subst T (has_none t) z)
    on (inr p) = p

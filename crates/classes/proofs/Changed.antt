-- Words changed at some places: start, turn and end of the loop. The converse of a relation is made so, row by row.
use mathlib.Core.Path.{◌≡◌, refl, sym, subst, ap, ◌∙◌}
use mathlib.Core.Logic.{◌≢◌}
use mathlib.Core.Bool.{Bool, true, false}
use mathlib.Core.List.{List}
use lib.Bits.{or_comm, or_zero_l}
use lib.Dec.{T}
use lib.ListN.{length, get_or, set, replicate, length-set, length-replicate}
use lib.Seq.{get_or-set_same, get_or-set_other}
use native.Mathlib.Decide.{ℕ_discrete}
use native.Mathlib.Omega.{arith}
use Prim.Native.Nat.{ℕ, ◌+◌, ◌^◌, ◌≤◌, ◌<◌}
use Rattle.words.specs.Sets.{has, built, below, insert, intersection, union, without, lowest}
use Rattle.words.proofs.Members.{has_lt}
use Rattle.words.proofs.Built.{built_in, built_out, cut_built, has_built, less_out}
use Rattle.words.proofs.Passing.{passing_start, passing_lowest, passing_next, passing_more, passing_end}
use Rattle.meaning.specs.File.Grammar.{most_states}
use Rattle.classes.specs.Rows.{rel, padded}
use Rattle.classes.specs.Changed.{Changed, Changing, Turning}
use Rattle.classes.proofs.Padded.{padded_is, padded_none, padded_past}
use Rattle.classes.proofs.Row.{cut_narrow}

pub changing_start : (g : ℕ → ℕ) (places : ℕ) (old : List ℕ) → Changing g places places old old
changing_start g places old = record { passing = passing_start places _; long = refl; waiting = λ z h. refl; other = λ z h. refl }

module _ (k : ℕ) {g : ℕ → ℕ} {places rest : ℕ} {old now : List ℕ} (h : Changing g places rest old now) (q : length old ≡ k) (b : places < 2 ^ k)
    (n : rest ≢ 0) where
  abbrev z : ℕ
  z = lowest k rest

  pub changing_more : {left v : ℕ} → v ≡ g (get_or now z 0) → left ≡ without k rest z → Changing g places left old (set now z v)
  unfolding without
  changing_more {left} {v} e d =
      record {
        passing = passing_more k h.passing b n d after here;
        long = length-set now z v ∙ h.long;
        waiting = λ t i. let o = less_out k rest z t (subst (λ w. T (has w t)) d i) in off t (λ p. o.0 (sym p)) ∙ h.waiting t o.1;
        other = λ t i. off t (λ p. i (subst (λ t. T (has places t)) (sym p) (passing_next k h.passing b n))) ∙ h.other t i;
      }
    where
      low : z < length now
      low = let i = (passing_lowest k h.passing b n).inside in omega (arith, h.long)

      off : (t : ℕ) → t ≢ z → get_or (set now z v) t 0 ≡ get_or now t 0
      off t p = get_or-set_other now z t v 0 p

      here : get_or (set now z v) z 0 ≡ g (get_or old z 0)
      here = get_or-set_same now z v 0 low ∙ (e ∙ ap g (h.waiting z (passing_lowest k h.passing b n).member))

      after : (t : ℕ) → get_or now t 0 ≡ g (get_or old t 0) → get_or (set now z v) t 0 ≡ g (get_or old t 0)
      after t i =
          elim (ℕ_discrete t z) [
            | yes p ↦ subst (λ t. get_or (set now z v) t 0 ≡ g (get_or old t 0)) (sym p) here
            | no p ↦ off t p ∙ i
          ]

pub changing_end : {g : ℕ → ℕ} {places : ℕ} {old new : List ℕ} → Changing g places 0 old new → Changed g places old new
changing_end h = record { long = h.long; at = λ z i. passing_end h.passing z i; other = h.other }

-- ---- the converse
abbrev nothing : List ℕ
nothing = replicate most_states 0

zeros : (y : ℕ) → get_or nothing y 0 ≡ 0
zeros y = ap (λ l. get_or l y 0) (padded_none most_states (λ x. 0)) ∙ padded_past most_states 0 (λ x. 0) y (omega arith)

pub turning_start : (n : ℕ) (r : List ℕ) → Turning n r nothing 0
unfolding built
turning_start n r =
    record { bound = omega arith; long = length-replicate {A = ℕ} most_states 0; row = λ y l. zeros y; past = λ y l. zeros y }

-- the set of one number united with another set
one_more : (w x : ℕ) → union (insert 0 x) w ≡ insert w x
unfolding union insert
one_more w x = rw (or_zero_l (2 ^ x)) (or_comm (2 ^ x) w)

module _ {n : ℕ} {r s : List ℕ} {x : ℕ} (h : Turning n r s x) (l : x < n) {places more : ℕ} (p : places ≡ intersection (below n) (get_or r x 0))
    (m : more ≡ insert 0 x) {s' : List ℕ} (c : Changed (union more) places s s') where
  -- a state is among the places where the row has it
  place : (y : ℕ) → y < n → has places y ≡ rel r x y
  place y k = ap (λ v. has v y) (p ∙ cut_built n (get_or r x 0)) ∙ has_built n (has (get_or r x 0)) y k

  row : (y : ℕ) → y < n → get_or s' y 0 ≡ built (x + 1) (λ x. rel r x y)
  row y k = on (has places y) refl
    where
      on : (b : Bool) → has places y ≡ b → get_or s' y 0 ≡ built (x + 1) (λ x. rel r x y)
      on true e =
          c.at y (subst T (sym e) tt)
          ∙ (rw (m, h.row y k) (one_more (built x (λ x. rel r x y)) x) ∙ built_in x (λ x. rel r x y) (sym (place y k) ∙ e))
      on false e = c.other y (λ i. subst T e i) ∙ (h.row y k ∙ built_out x (λ x. rel r x y) (sym (place y k) ∙ e))

  pub turning_more : Turning n r s' (x + 1)
  turning_more =
      record {
        bound = omega arith;
        long = c.long ∙ h.long;
        row = row;
        past = λ y k.
            c.other y (λ i. let q = has_lt n places y (rw p (cut_narrow n (get_or r x 0))) i in omega arith) ∙ h.past y k;
      }

pub turning_end : {n : ℕ} {r s : List ℕ} {x : ℕ} → Turning n r s x → n ≤ most_states → n ≤ x → s ≡ padded most_states n (λ y. built n (λ x. rel r x y))
turning_end {n} {r} {s} {x} h m l =
    let e : x ≡ n = let b = h.bound in omega arith in
    padded_is most_states n (λ y. built n (λ x. rel r x y)) s m h.long (λ y k. h.row y k ∙ ap (λ z. built z (λ x. rel r x y)) e)
    (λ y k q. h.past y k)

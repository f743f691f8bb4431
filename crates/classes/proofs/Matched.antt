-- The states whose successors are matched by those of one state, assignment by assignment.
use mathlib.Core.Path.{◌≡◌, refl, sym, subst, ap, ap₂, ◌∙◌}
use mathlib.Core.Bool.{Bool, true, false, ◌&&◌}
use mathlib.Core.List.{List}
use lib.Dec.{T}
use lib.ListN.{length}
use native.Mathlib.Numerals.{add-one}
use native.Mathlib.Omega.{arith}
use Prim.Native.Nat.{ℕ, suc, ◌+◌, ◌^◌, ◌≤◌, ◌<◌}
use Rattle.words.specs.Sets.{has, built, complement, intersection, subset}
use Rattle.words.proofs.Members.{and_true, has_none}
use Rattle.words.proofs.Built.{built_has, built_lt, built_same, has_built}
use Rattle.meaning.specs.Tests.{any_below}
use Rattle.meaning.specs.Reference.Tests.{all_below}
use Rattle.meaning.specs.Reference.Truth.{up_to}
use Rattle.meaning.proofs.Basic.Booleans.{and_in, and_l, and_r, test_eq}
use Rattle.meaning.proofs.Basic.Bounded.{all_in, all_out}
use Rattle.meaning.proofs.Meaning.Full.{length_up_to}
use Rattle.meaning.specs.StepWords.{step_table, successor_word}
use Rattle.classes.specs.Rows.{rel}
use Rattle.classes.specs.Matching.{matched_on, matched_by}
use Rattle.classes.specs.Loops.{MatchingOn}
use Rattle.classes.proofs.Row.{covered_all}

-- one assignment: the code's test by words
on_word : (states inputs : ℕ) (succ r : List ℕ) (fail x y a : ℕ)
    → subset (intersection (successor_word inputs succ y a) (complement states fail))
    (built states (λ u. any_below states (λ v. has (successor_word inputs succ x a) v && rel r v u)))
    ≡ matched_on (step_table states inputs succ) r fail x y a
on_word states inputs succ r fail x y a =
    rw (length_up_to inputs)
    (covered_all states (successor_word inputs succ y a) fail (λ u. any_below states (λ v. has (successor_word inputs succ x a) v && rel r v u)))

module _ (states inputs : ℕ) (succ r : List ℕ) (fail x : ℕ) where
  count : 2 ^ length (up_to inputs) ≡ 2 ^ inputs
  count = rw (length_up_to inputs)

  -- assignment a, and those below it
  abbrev one : ℕ → ℕ → Bool
  one a y = matched_on (step_table states inputs succ) r fail x y a

  abbrev some : ℕ → ℕ → ℕ → Bool
  some among a y = has among y && all_below a (λ a. one a y)

  pub matching_start : (among : ℕ) → among < 2 ^ states → MatchingOn (step_table states inputs succ) r fail x among among 0
  matching_start among l =
      record {
        bound = omega arith;
        word = sym (built_has states among l) ∙ built_same states (has among) (some among 0) (λ y k. sym (and_true (has among y)));
      }

  module _ {among w a m : ℕ} (h : MatchingOn (step_table states inputs succ) r fail x among w a) (l : a < 2 ^ inputs)
      (em : m ≡ built states (λ u. any_below states (λ v. has (successor_word inputs succ x a) v && rel r v u))) where
    here : (y : ℕ) → y < states → has w y ≡ some among a y
    here y k = ap (λ w. has w y) h.word ∙ has_built states (some among a) y k

    on : (y : ℕ) → subset (intersection (successor_word inputs succ y a) (complement states fail)) m ≡ one a y
    on y = rw em (on_word states inputs succ r fail x y a)

    regroup : (p q o : Bool) → ((p && q) && o) ≡ (p && (o && q))
    regroup true true true = refl
    regroup true true false = refl
    regroup true false true = refl
    regroup true false false = refl
    regroup false q o = refl

    -- the states whose successors on a are not all matched have been taken out
    pub matching_more : {v : ℕ} → v ≡ built states (λ y. has w y && subset (intersection (successor_word inputs succ y a) (complement states fail)) m)
        → MatchingOn (step_table states inputs succ) r fail x among v (a + 1)
    matching_more {v} ev =
        record {
          bound = omega (arith, count);
          word = rw (add-one a) (ev ∙ built_same states
              (λ y. has w y && subset (intersection (successor_word inputs succ y a) (complement states fail)) m) (some among (suc a)) (λ y k.
              ap₂ (λ p q. p && q) (here y k) (on y) ∙ regroup (has among y) (all_below a (λ a. one a y)) (one a y)));
        }

  module _ {among w a : ℕ} (h : MatchingOn (step_table states inputs succ) r fail x among w a) where
    pub matching_narrow : w < 2 ^ states
    matching_narrow = rw h.word (built_lt states (some among a))

    pub matching_end : 2 ^ inputs ≤ a → w ≡ built states (λ y. has among y && matched_by (step_table states inputs succ) r fail x y)
    matching_end l =
        let e : a ≡ 2 ^ length (up_to inputs) = let b = h.bound in omega (arith, count) in
        h.word ∙ ap (λ z. built states (some among z)) e

    -- no state is left
    pub matching_none : w ≡ 0 → w ≡ built states (λ y. has among y && matched_by (step_table states inputs succ) r fail x y)
    matching_none e =
        h.word ∙ built_same states (some among a) (some among (2 ^ length (up_to inputs))) (λ y k.
        test_eq (some among a y) (some among (2 ^ length (up_to inputs)) y)
        (λ i. absurd (subst T (sym (has_built states (some among a) y k) ∙ (ap (λ w. has w y) (sym h.word ∙ e) ∙ has_none y)) i))
        (λ i.
        and_in (has among y) (all_below a (λ a. one a y)) (and_l (has among y) (all_below (2 ^ length (up_to inputs)) (λ a. one a y)) i)
        (all_in a (λ a. one a y) (λ b l.
        all_out (2 ^ length (up_to inputs)) (λ a. one a y) (and_r (has among y) (all_below (2 ^ length (up_to inputs)) (λ a. one a y)) i) b
        (let c = h.bound in omega (arith, count))))))

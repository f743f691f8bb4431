-- The rules for signals give the marks of an atom: foreign where the component does not list it as an output, own at its place in the list.
use mathlib.Core.Path.{◌≡◌, sym, subst, ap, ◌∙◌}
use mathlib.Core.Bool.{Bool, false, not, ◌&&◌}
use mathlib.Core.List.{List, []}
use lib.Dec.{T, eqb, eqb→eq, eqb_refl}
use lib.ListN.{length, get_or}
use Prim.Native.Nat.{ℕ, ◌<◌}
use native.Mathlib.Decide.{dec_lt}
use native.Mathlib.Omega.{arith}
use Rattle.words.specs.Sets.{has, built}
use Rattle.words.proofs.Built.{built_same, built_empty}
use Rattle.meaning.specs.Tests.{listed}
use Rattle.meaning.specs.Table.{Table, from_words, owns, drives}
use Rattle.meaning.specs.Atoms.{on_signal}
use Rattle.meaning.specs.Formula.{atom}
use Rattle.meaning.specs.View.{atoms}
use Rattle.meaning.proofs.Basic.Booleans.{and_in, and_l, and_r, test_eq}
use Rattle.meaning.proofs.Basic.Bounded.{any_in, any_out}
use Rattle.meaning.proofs.Basic.Lists.{at_listed}
use Rattle.instrument.specs.Lists.{Ascending, StandsAt}
use Rattle.marks.specs.Formulas.{formula_mark}
use Rattle.marks.specs.NodeMarks.{signal_mark}
use Rattle.mark_rules.specs.Rules.{foreign_mark, own_mark, own_pass, own_fail}
use Rattle.mark_rules.proofs.Rules.{mark_is}

pub formula_foreign : (t : Table) (compared : ℕ → ℕ) (w : ℕ) → owns t w ≡ false → foreign_mark ≡ formula_mark t (atoms compared t) (atom (on_signal w))
formula_foreign t compared w e = mark_is _ _ _ (sym (nothing (λ x. drives t x w))) (sym (nothing (λ x. not (drives t x w))))
  where
    nothing : (f : ℕ → Bool) → built t.states (λ x. owns t w && f x) ≡ 0
    nothing f =
        built_same t.states (λ x. owns t w && f x) (λ x. false) (λ x l. ap (λ o. o && f x) e) ∙ built_empty t.states

-- the signal is listed at the place j alone, as in an ascending list
module _
    (n : ℕ)
    (inputs outputs outs succ : List ℕ)
    (j : ℕ)
    (l : j < length outputs)
    (once : (i : ℕ) → i < length outputs → get_or outputs i 0 ≡ get_or outputs j 0 → i ≡ j)
  where
    abbrev t : Table
    t = from_words n inputs outputs outs succ

    abbrev w : ℕ
    w = get_or outputs j 0

    own_drives : (x : ℕ) → drives t x w ≡ has (get_or outs x 0) j
    own_drives x =
        test_eq (drives t x w) (has (get_or outs x 0) j)
        (λ h.
        let (i, k, c) = any_out (length outputs) driven h in
        let e = once i k (eqb→eq (get_or outputs i 0) w (and_l (eqb (get_or outputs i 0) w) (has (get_or outs x 0) i) c)) in
        subst (λ i. T (has (get_or outs x 0) i)) e (and_r (eqb (get_or outputs i 0) w) (has (get_or outs x 0) i) c))
        (λ h. any_in (length outputs) driven j l (and_in (eqb w w) (has (get_or outs x 0) j) (eqb_refl w) h))
      where
        driven : ℕ → Bool
        driven i = eqb (get_or outputs i 0) w && has (get_or outs x 0) i

    own_owns : (b : Bool) → (owns t w && b) ≡ b
    own_owns b =
        test_eq (owns t w && b) b (λ h. and_r (owns t w) b h) (λ h. and_in (owns t w) b (at_listed outputs j l) h)

    pub formula_own : (compared : ℕ → ℕ) → own_mark n outs j ≡ formula_mark t (atoms compared t) (atom (on_signal w))
    unfolding own_pass own_fail
    formula_own compared =
        mark_is _ _ _
        (built_same n (λ x. has (get_or outs x 0) j) (λ x. owns t w && drives t x w) (λ x k. sym (own_owns (drives t x w) ∙ own_drives x)))
        (built_same n (λ x. not (has (get_or outs x 0) j)) (λ x. owns t w && not (drives t x w))
        (λ x k. sym (own_owns (not (drives t x w)) ∙ ap not (own_drives x))))

-- by the signal's number: own at the place where an ascending list has it, foreign if it has it nowhere
once : (vs : List ℕ) → Ascending vs → (j : ℕ) → j < length vs → (i : ℕ) → i < length vs → get_or vs i 0 ≡ get_or vs j 0 → i ≡ j
once vs a j l i k e =
    elim (dec_lt i j) [
      | yes h ↦ absurd (omega (arith, a.each i j h l))
      | no h ↦ elim (dec_lt j i) [ yes m ↦ absurd (omega (arith, a.each j i m k)) | no m ↦ omega arith ]
    ]

module _ (n : ℕ) (outputs outs : List ℕ) (w : ℕ) where
  pub signal_own : Ascending outputs → (j : ℕ) → StandsAt outputs w j → own_mark n outs j ≡ signal_mark n outputs outs w
  unfolding signal_mark
  signal_own a j s = rw (← s.is) (formula_own n [] outputs outs [] j s.placed (once outputs a j s.placed) (λ x. get_or outs x 0))

  pub signal_foreign : listed outputs w ≡ false → foreign_mark ≡ signal_mark n outputs outs w
  unfolding signal_mark
  signal_foreign e = formula_foreign (from_words n [] outputs outs []) (λ x. get_or outs x 0) w e

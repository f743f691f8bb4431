-- The relation of a signal (document 01, Classes): same level at the place where a component lists it as an output, all states if it lists
-- it nowhere.
use mathlib.Core.Path.{◌≡◌, refl, sym, ap, ap₂, ◌∙◌}
use mathlib.Core.Bool.{Bool, true, false, not, ◌&&◌, ◌||◌, beq}
use mathlib.Core.List.{List, []}
use lib.ListN.{get_or}
use Prim.Native.Nat.{ℕ, ◌≤◌, ◌<◌}
use Rattle.words.specs.Sets.{has}
use Rattle.words.proofs.Built.{has_built}
use Rattle.meaning.specs.Tests.{listed}
use Rattle.meaning.specs.Table.{Table, from_words, owns, drives}
use Rattle.meaning.proofs.Basic.Booleans.{test_eq}
use Rattle.meaning.proofs.Basic.Lists.{at_listed}
use Rattle.instrument.specs.Lists.{Ascending, StandsAt}
use Rattle.marks.specs.NodeMarks.{signal_mark}
use Rattle.mark_rules.specs.Rules.{own_pass}
use Rattle.marks.proofs.Signals.{signal_own}
use Rattle.classes.specs.Related.{related_all, related_level}
use Rattle.classes.proofs.Rows.{rows_same}
use Rattle.meaning.specs.File.Grammar.{most_states}
use Rattle.relations.specs.Relations.{signal_relation}

module _ (n : ℕ) (outputs outs : List ℕ) (w : ℕ) where
  abbrev t : Table
  t = from_words n [] outputs outs []

  -- PASS of an own signal: the level in a state's output word is the level that the state drives
  own_level : Ascending outputs → (j : ℕ) → StandsAt outputs w j → (x : ℕ) → x < n
      → has (get_or outs x 0) j ≡ (owns t w && drives t x w)
  unfolding own_pass signal_mark
  own_level a j s x k =
      sym (has_built n (λ x. has (get_or outs x 0) j) x k) ∙ ap (λ m. has m.pass x) (signal_own n outputs outs w a j s)
      ∙ has_built n (λ x. owns t w && drives t x w) x k

  own_pair : (o p q : Bool) → o ≡ true → beq (o && p) (o && q) ≡ (not o || beq p q)
  own_pair true p q e = refl
  own_pair false p q e = refl

  pub signal_level : n ≤ most_states → Ascending outputs → (j : ℕ) → StandsAt outputs w j
      → related_level outs n j ≡ signal_relation n outputs outs w
  unfolding related_level signal_relation
  signal_level m a j s =
      rows_same n (λ x y. beq (has (get_or outs x 0) j) (has (get_or outs y 0) j))
      (λ x y. not (owns t w) || beq (drives t x w) (drives t y w)) m (λ x y h k.
      ap₂ beq (own_level a j s x h) (own_level a j s y k) ∙ own_pair (owns t w) (drives t x w) (drives t y w) here)
    where
      here : owns t w ≡ true
      here = test_eq (listed outputs w) true (λ h. tt) (λ h. rw (← s.is) (at_listed outputs j s.placed))

  pub signal_all : n ≤ most_states → listed outputs w ≡ false → related_all n ≡ signal_relation n outputs outs w
  unfolding related_all signal_relation
  signal_all m none =
      rows_same n (λ x y. true) (λ x y. not (owns t w) || beq (drives t x w) (drives t y w)) m (λ x y h k.
      ap (λ o. not o || beq (drives t x w) (drives t y w)) (sym none))

-- The rules look at no part of a component's table but its steps: inputs are counted, outputs not looked at.
use mathlib.Core.Path.{◌≡◌, sym, ap, ◌∙◌}
use mathlib.Core.Bool.{Bool, not, ◌&&◌, ◌||◌}
use mathlib.Core.List.{List}
use lib.ListN.{length, get_or}
use Prim.Native.Nat.{ℕ, ◌+◌, ◌*◌, ◌^◌}
use Rattle.words.specs.Sets.{has, built}
use Rattle.meaning.specs.Table.{Table, from_words}
use Rattle.meaning.specs.Tests.{any_below}
use Rattle.meaning.specs.Reference.Tests.{all_below, shrink, grow}
use Rattle.meaning.specs.Reference.Truth.{up_to}
use Rattle.meaning.specs.Reference.Marks.{must_b, can_b}
use Rattle.meaning.proofs.Meaning.Full.{length_up_to}
use Rattle.mark_rules.specs.declared.Mark.{Mark}
use Rattle.meaning.specs.StepWords.{step_table}
use Rattle.mark_rules.specs.Rules.{ex_mark, eg_mark, eu_mark, ex_pass, ex_fail, eg_pass, eg_fail, eu_pass, eu_fail}
use Rattle.mark_rules.proofs.Rules.{mark_is}

module _ (n k : ℕ) (inputs outputs outs succ : List ℕ) (counted : length inputs ≡ k) where
  abbrev words : Table
  words = step_table n k succ

  abbrev whole : Table
  whole = from_words n inputs outputs outs succ

  -- of k inputs, on the assignment a: some successor of x is in Z
  abbrev on : ℕ → (ℕ → Bool) → ℕ → ℕ → Bool
  on k Z x a = any_below n (λ y. has (get_or succ (2 ^ k * x + a) 0) y && Z y)

  same_count : length (up_to k) ≡ length inputs
  same_count = length_up_to k ∙ sym counted

  must_steps : must_b words ≡ must_b whole
  must_steps = ap (λ k Z x. all_below (2 ^ k) (on k Z x)) same_count

  can_steps : can_b words ≡ can_b whole
  can_steps = ap (λ k Z x. any_below (2 ^ k) (on k Z x)) same_count

  pub ex_steps : (m : Mark) → ex_mark words m ≡ ex_mark whole m
  unfolding ex_pass ex_fail
  ex_steps m =
      mark_is _ _ _ (ap (λ M. built n (M (has m.pass))) must_steps)
      (ap (λ C. built n (λ x. not (C (λ y. not (has m.fail y)) x))) can_steps)

  pub eg_steps : (m : Mark) → eg_mark words m ≡ eg_mark whole m
  unfolding eg_pass eg_fail
  eg_steps m =
      mark_is _ _ _ (ap (λ M. built n (shrink (λ Z x. has m.pass x && M Z x) n)) must_steps)
      (ap (λ C. built n (λ x. not (shrink (λ Z x. not (has m.fail x) && C Z x) n x))) can_steps)

  pub eu_steps : (a b : Mark) → eu_mark words a b ≡ eu_mark whole a b
  unfolding eu_pass eu_fail
  eu_steps a b =
      mark_is _ _ _ (ap (λ M. built n (grow (λ Z x. has b.pass x || (has a.pass x && M Z x)) n)) must_steps)
      (ap (λ C. built n (λ x. not (grow (λ Z x. not (has b.fail x) || (not (has a.fail x) && C Z x)) n x))) can_steps)

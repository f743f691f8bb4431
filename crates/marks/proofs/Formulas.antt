-- The rules, applied to the marks of the operands, give the marks of the formula (meaning's pass_b and fail_b).
use mathlib.Core.Path.{◌≡◌, refl, sym}
use mathlib.Core.Bool.{Bool}
use lib.Dec.{T}
use Prim.Native.Nat.{ℕ}
use Rattle.words.specs.Sets.{has, built}
use Rattle.words.proofs.Built.{built_lt, built_below, built_empty, built_union, built_intersection}
use Rattle.meaning.specs.Table.{Table}
use Rattle.meaning.specs.Formula.{Formula, top, or, ex, eg, eu}
use Rattle.meaning.specs.View.{View, atoms}
use Rattle.meaning.specs.Reference.Marks.{pass_b, fail_b}
use Rattle.meaning.proofs.Basic.Decides.{Decides, test_decides, not_decides}
use Rattle.meaning.proofs.Meaning.TableSteps.{must_decides, can_decides}
use Rattle.meaning.proofs.Meaning.TablePaths.{keeps_decides, reach_decides}
use Rattle.meaning.proofs.Marks.Sets.{largest_decides, least_decides}
use Rattle.marks.specs.Formulas.{formula_mark, Sees}
use Rattle.mark_rules.specs.Rules.{InRange, true_mark, or_mark, ex_mark, eg_mark, eu_mark, ex_pass, ex_fail, eg_pass, eg_fail, eu_pass, eu_fail}
use Rattle.mark_rules.proofs.Rules.{mark_is}
use Rattle.mark_rules.proofs.Tests.{same_word, built_decides}

module _ {A : Type 0} (t : Table) (κ : View A) where
  abbrev N : ℕ
  N = t.states

  pub formula_range : (φ : Formula A) → InRange N (formula_mark t κ φ)
  formula_range φ = record { pass = built_lt N (pass_b t κ φ); fail = built_lt N (fail_b t κ φ) }

  pub formula_true : true_mark N ≡ formula_mark t κ top
  formula_true = mark_is _ _ _ (sym (built_below N)) (sym (built_empty N))

  pub formula_or : (φ ψ : Formula A) → or_mark (formula_mark t κ φ) (formula_mark t κ ψ) ≡ formula_mark t κ (or φ ψ)
  formula_or φ ψ = mark_is _ _ _ (built_union N (pass_b t κ φ) (pass_b t κ ψ)) (built_intersection N (fail_b t κ φ) (fail_b t κ ψ))

  -- a test, and the word of the states that pass it
  test : (b : ℕ → Bool) → Decides N b (λ x. T (b x))
  test b = test_decides b

  word : (b : ℕ → Bool) → Decides N (has (built N b)) (λ x. T (b x))
  word b = built_decides (test b)

  pub formula_ex : (φ : Formula A) → ex_mark t (formula_mark t κ φ) ≡ formula_mark t κ (ex φ)
  unfolding ex_pass ex_fail
  formula_ex φ =
      let p = pass_b t κ φ in
      let f = fail_b t κ φ in
      mark_is _ _ _ (same_word (must_decides t (word p)) (must_decides t (test p)))
      (same_word (not_decides (can_decides t (not_decides (word f)))) (not_decides (can_decides t (not_decides (test f)))))

  pub formula_eg : (φ : Formula A) → eg_mark t (formula_mark t κ φ) ≡ formula_mark t κ (eg φ)
  unfolding eg_pass eg_fail
  formula_eg φ =
      let p = pass_b t κ φ in
      let f = fail_b t κ φ in
      mark_is _ _ _ (same_word (largest_decides t (word p)) (largest_decides t (test p)))
      (same_word (not_decides (keeps_decides t (not_decides (word f)))) (not_decides (keeps_decides t (not_decides (test f)))))

  pub formula_eu : (φ ψ : Formula A) → eu_mark t (formula_mark t κ φ) (formula_mark t κ ψ) ≡ formula_mark t κ (eu φ ψ)
  unfolding eu_pass eu_fail
  formula_eu φ ψ =
      let p = pass_b t κ φ in
      let q = pass_b t κ ψ in
      let f = fail_b t κ φ in
      let g = fail_b t κ ψ in
      mark_is _ _ _ (same_word (least_decides t (word p) (word q)) (least_decides t (test p) (test q)))
      (same_word (not_decides (reach_decides t (not_decides (word f)) (not_decides (word g))))
      (not_decides (reach_decides t (not_decides (test f)) (not_decides (test g)))))

-- a table's own view, whatever it compares, sees its signals
pub own_view : (t : Table) (compared : ℕ → ℕ) → Sees t (atoms compared t)
own_view t compared = record { pass = λ w x. refl; fail = λ w x. refl; related = λ w x y. refl }

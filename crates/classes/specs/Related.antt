-- When two states of one component are related at a node, as rows (document 01, Classes). What they mean for a
-- formula is proved in proofs/Formulas.
use Rattle.std.specs.Prelude.{true, ◌&&◌, List, get_or, ℕ}
use Rattle.std.specs.Bool.{beq}
use Rattle.words.specs.Sets.{has}
use Rattle.meaning.specs.Reference.Relation.{rule_b, largest_b}
use Rattle.meaning.specs.Table.{Table}
use Rattle.mark_rules.specs.declared.Mark.{Mark}
use Rattle.classes.specs.Rows.{rel, rows}

-- "True, foreign signal: always."
unfoldable pub related_all : ℕ → List ℕ
related_all n = rows n (λ x y. true)

-- "Own signal: same level." The signal is the j-th listed output.
unfoldable pub related_level : List ℕ → ℕ → ℕ → List ℕ
related_level outs n j = rows n (λ x y. beq (has (get_or outs x 0) j) (has (get_or outs y 0) j))

-- "or .. EU first need relation for every operand"
unfoldable pub related_both : ℕ → List ℕ → List ℕ → List ℕ
related_both n a b = rows n (λ x y. rel a x y && rel b x y)

module _ (t : Table) (compared : List ℕ) where
  -- EX: related for the operand, and "both PASS, or both FAIL, of the node; or equal output words, and on every assignment each non-FAIL
  -- successor of either has a related successor of the other", where the words are those that are compared, and non-FAIL and related are those
  -- of the operand
  unfoldable pub related_ex : List ℕ → Mark → ℕ → List ℕ
  related_ex operand m operandFail =
      rows t.states (λ x y. rel operand x y && rule_b t (λ z. get_or compared z 0) (has m.pass) (has m.fail) (has operandFail) (rel operand) x y)

  -- EG, EU: the largest relation inside the operands' that keeps the same rule, where FAIL and related are those of the node itself
  unfoldable pub related_fixed : List ℕ → Mark → List ℕ
  related_fixed operands m = rows t.states (largest_b t (λ z. get_or compared z 0) (rel operands) (has m.pass) (has m.fail))

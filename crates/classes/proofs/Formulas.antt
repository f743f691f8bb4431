-- The rows of a formula's relation from the rows and marks of its operands (document 01, Classes), on a table of a file whose successor
-- words are the lent ones; the compared outputs are the view's.
use mathlib.Core.Path.{◌≡◌, refl, ap₂, ◌∙◌}
use mathlib.Core.Bool.{Bool, ◌&&◌}
use mathlib.Core.List.{List}
use lib.ListN.{get_or, length}
use Prim.Native.Nat.{ℕ, ◌≤◌, ◌<◌}
use Rattle.words.specs.Sets.{has, built}
use Rattle.words.proofs.Built.{has_built}
use Rattle.meaning.specs.Table.{Table, from_words}
use Rattle.meaning.specs.Formula.{Formula, top, or, ex, eg, eu}
use Rattle.meaning.specs.View.{View}
use Rattle.meaning.specs.Reference.Marks.{pass_b, fail_b}
use Rattle.meaning.specs.Reference.Relation.{largest_b, rel_b, rule_b}
use Rattle.meaning.specs.StepWords.{step_table}
use Rattle.meaning.specs.File.Grammar.{most_states}
use Rattle.mark_rules.specs.declared.Mark.{Mark}
use Rattle.classes.specs.Rows.{rel, rows}
use Rattle.classes.specs.Related.{related_all, related_both, related_ex, related_fixed}
use Rattle.classes.proofs.Rows.{rel_rows_lem, rows_same}
use Rattle.classes.proofs.Agree.{AgreePairs, rule_agree, largest_agree, rule_lent, largest_lent}

module _
    {A : Type 0}
    (n : ℕ)
    (m : n ≤ most_states)
    (inputs outputs outs succ compared : List ℕ)
    (κ : View A)
    (same : (x : ℕ) → x < n → get_or compared x 0 ≡ κ.compared x)
  where
    abbrev t : Table
    t = from_words n inputs outputs outs succ

    -- the same as it is lent
    abbrev lent : Table
    lent = step_table n (length inputs) succ

    -- the relation of a formula as rows, its marks as words
    abbrev pub rel_rows : Formula A → List ℕ
    rel_rows φ = rows n (rel_b t κ φ)

    abbrev pub pass_word : Formula A → ℕ
    pass_word φ = built n (pass_b t κ φ)

    abbrev pub fail_word : Formula A → ℕ
    fail_word φ = built n (fail_b t κ φ)

    abbrev pub mark_of : Formula A → Mark
    mark_of φ = record { pass = pass_word φ; fail = fail_word φ }

    pub top_rows : related_all n ≡ rel_rows top
    unfolding related_all
    top_rows = refl

    both_agree : (a b : ℕ → ℕ → Bool) → AgreePairs n (λ x y. rel (rows n a) x y && rel (rows n b) x y) (λ x y. a x y && b x y)
    both_agree a b x y l k = ap₂ (λ a b. a && b) (rel_rows_lem n a x y m l k) (rel_rows_lem n b x y m l k)

    pub or_rows : (φ ψ : Formula A) → related_both n (rel_rows φ) (rel_rows ψ) ≡ rel_rows (or φ ψ)
    unfolding related_both
    or_rows φ ψ = rows_same n (λ x y. rel (rel_rows φ) x y && rel (rel_rows ψ) x y) (rel_b t κ (or φ ψ)) m (both_agree (rel_b t κ φ) (rel_b t κ ψ))

    pub ex_rows : (φ : Formula A)
        → related_ex lent compared (rel_rows φ) (mark_of (ex φ)) (fail_word φ) ≡ rel_rows (ex φ)
    unfolding related_ex
    ex_rows φ =
        rows_same n
        (λ x y. rel (rel_rows φ) x y
        && rule_b lent (λ z. get_or compared z 0) (has (pass_word (ex φ))) (has (fail_word (ex φ))) (has (fail_word φ)) (rel (rel_rows φ)) x y)
        (rel_b t κ (ex φ)) m (λ x y l k.
        ap₂ (λ a b. a && b) (rel_rows_lem n (rel_b t κ φ) x y m l k)
        (rule_lent n inputs outputs outs succ (λ z. get_or compared z 0) (has (pass_word (ex φ))) (has (fail_word (ex φ))) (has (fail_word φ)) (rel (rel_rows φ)) x y
        ∙ rule_agree t (λ z. get_or compared z 0) κ.compared same (has (pass_word (ex φ))) (pass_b t κ (ex φ)) (has (fail_word φ)) (fail_b t κ φ)
        (has_built n (pass_b t κ (ex φ))) (has_built n (fail_b t κ φ)) (has (fail_word (ex φ))) (fail_b t κ (ex φ)) (rel (rel_rows φ)) (rel_b t κ φ)
        (has_built n (fail_b t κ (ex φ))) (λ u v i j. rel_rows_lem n (rel_b t κ φ) u v m i j) x y l k))

    -- EG and EU: e is the operands' relation, p and f the marks of the node
    fixed_rows : (operands : List ℕ) (e : ℕ → ℕ → Bool) (p f : ℕ → Bool) → AgreePairs n (rel operands) e
        → related_fixed lent compared operands (record { pass = built n p; fail = built n f }) ≡ rows n (largest_b t κ.compared e p f)
    unfolding related_fixed
    fixed_rows operands e p f h =
        rows_same n (largest_b lent (λ z. get_or compared z 0) (rel operands) (has (built n p)) (has (built n f)))
        (largest_b t κ.compared e p f) m (λ x y l k.
        largest_lent n inputs outputs outs succ (λ z. get_or compared z 0) (rel operands) (has (built n p)) (has (built n f)) x y l k
        ∙ largest_agree t (λ z. get_or compared z 0) κ.compared same (has (built n p)) p (has (built n f)) f (has_built n p) (has_built n f)
        (rel operands) e h x y l k)

    pub eg_rows : (φ : Formula A) → related_fixed lent compared (rel_rows φ) (mark_of (eg φ)) ≡ rel_rows (eg φ)
    eg_rows φ =
        fixed_rows (rel_rows φ) (rel_b t κ φ) (pass_b t κ (eg φ)) (fail_b t κ (eg φ)) (λ x y l k. rel_rows_lem n (rel_b t κ φ) x y m l k)

    pub eu_rows : (φ ψ : Formula A)
        → related_fixed lent compared (related_both n (rel_rows φ) (rel_rows ψ)) (mark_of (eu φ ψ)) ≡ rel_rows (eu φ ψ)
    unfolding related_both
    eu_rows φ ψ =
        fixed_rows (related_both n (rel_rows φ) (rel_rows ψ)) (λ x y. rel_b t κ φ x y && rel_b t κ ψ x y) (pass_b t κ (eu φ ψ)) (fail_b t κ (eu φ ψ)) (λ x y l k.
        rel_rows_lem n (λ x y. rel (rel_rows φ) x y && rel (rel_rows ψ) x y) x y m l k ∙ both_agree (rel_b t κ φ) (rel_b t κ ψ) x y l k)

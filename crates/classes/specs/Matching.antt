-- What the parts of the code compute: the converse, the states whose successors are matched, the rule for every pair at once.
use Rattle.std.specs.Prelude.{Bool, ◌&&◌, ◌||◌, List, eqb, get_or, ℕ}
use Rattle.words.specs.Sets.{has, built}
use Rattle.meaning.specs.Reference.Tests.{all_below}
use Rattle.meaning.specs.Reference.Relation.{meet_b, matched_b}
use Rattle.meaning.specs.Table.{Table}
use Rattle.mark_rules.specs.declared.Mark.{Mark}
use Rattle.classes.specs.Rows.{rel, rows}

-- y and x where x and y are related
unfoldable pub conversed : ℕ → List ℕ → List ℕ
conversed n r = rows n (λ x y. rel r y x)

-- by the relation r "each non-FAIL successor of" y "has a related successor of" x: on assignment a, and "on every assignment". Outputs are
-- not looked at.
abbrev pub matched_on : Table → List ℕ → ℕ → ℕ → ℕ → ℕ → Bool
matched_on t r fail x y a = all_below t.states (meet_b t (λ z. 0) (has fail) (λ u v. rel r v u) y x a)

abbrev pub matched_by : Table → List ℕ → ℕ → ℕ → ℕ → Bool
matched_by t r fail x y = matched_b t (λ z. 0) (has fail) (λ u v. rel r v u) y x

-- row x has every such y that x is related to
unfoldable pub matched_rows : Table → List ℕ → ℕ → List ℕ
matched_rows t r fail = rows t.states (λ x y. rel r x y && matched_by t r fail x y)

-- the states of own that are PASS with x, FAIL with x, or in alike
unfoldable pub kept : ℕ → ℕ → Mark → ℕ → ℕ → ℕ
kept n own m alike x =
    built n (λ y. has own y && ((has m.pass x && has m.pass y) || ((has m.fail x && has m.fail y) || has alike y)))

-- the pairs of r that are both PASS, both FAIL, or have equal compared outputs and are related by forth and back
abbrev pub rules : List ℕ → List ℕ → Mark → List ℕ → List ℕ → ℕ → ℕ → Bool
rules compared r m forth back x y =
    rel r x y && ((has m.pass x && has m.pass y) || ((has m.fail x && has m.fail y)
    || (eqb (get_or compared x 0) (get_or compared y 0) && (rel forth x y && rel back x y))))

unfoldable pub ruled : ℕ → List ℕ → List ℕ → Mark → List ℕ → List ℕ → List ℕ
ruled n compared r m forth back = rows n (rules compared r m forth back)

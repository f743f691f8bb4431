-- The relation of EX is made of the matched successors and their converse.
use mathlib.Core.Path.{◌≡◌, refl, ap₂, ◌∙◌}
use mathlib.Core.Bool.{Bool, true, false, ◌&&◌, ◌||◌}
use mathlib.Core.List.{List}
use lib.Dec.{eqb}
use lib.ListN.{get_or}
use Prim.Native.Nat.{ℕ, ◌≤◌, ◌<◌}
use Rattle.words.specs.Sets.{has}
use Rattle.meaning.specs.Reference.Relation.{matched_b, rule_b}
use Rattle.meaning.specs.Table.{Table}
use Rattle.mark_rules.specs.declared.Mark.{Mark}
use Rattle.meaning.specs.File.Grammar.{most_states}
use Rattle.classes.specs.Rows.{rel}
use Rattle.classes.specs.Related.{related_ex}
use Rattle.classes.specs.Matching.{conversed, matched_by, matched_rows, rules, ruled}
use Rattle.classes.proofs.Rows.{rel_rows_lem, rows_same}
use Rattle.classes.proofs.Agree.{matched_agree}

pub converse_at : (n : ℕ) (r : List ℕ) (x y : ℕ) → n ≤ most_states → x < n → y < n → rel (conversed n r) x y ≡ rel r y x
unfolding conversed
converse_at n r x y m l k = rel_rows_lem n (λ x y. rel r y x) x y m l k

-- a pair that is tested to be related need not be tested again
again : (o p q e f b : Bool) → (o && (p || (q || (e && ((o && f) && (o && b)))))) ≡ (o && (p || (q || (e && (f && b)))))
again true p q e f b = refl
again false p q e f b = refl

module _ (t : Table) (compared : List ℕ) (m : t.states ≤ most_states) where
  matched_at : (r : List ℕ) (fail x y : ℕ) → x < t.states → y < t.states
      → rel (matched_rows t r fail) x y ≡ (rel r x y && matched_by t r fail x y)
  unfolding matched_rows
  matched_at r fail x y l k = rel_rows_lem t.states (λ x y. rel r x y && matched_by t r fail x y) x y m l k

  -- what is matched by the converse relation, read the other way
  forth_at : (r : List ℕ) (fail x y : ℕ) → x < t.states → y < t.states
      → rel (conversed t.states (matched_rows t (conversed t.states r) fail)) x y
      ≡ (rel r x y && matched_b t (λ z. get_or compared z 0) (has fail) (rel r) x y)
  forth_at r fail x y l k =
      converse_at t.states (matched_rows t (conversed t.states r) fail) x y m l k
      ∙ (matched_at (conversed t.states r) fail y x k l
      ∙ ap₂ (λ p q. p && q) (converse_at t.states r y x m k l)
      (matched_agree t (λ z. get_or compared z 0) (has fail) (has fail) (λ u v. rel (conversed t.states r) v u) (rel r)
      (λ u p. refl) (λ u v p q. converse_at t.states r v u m q p) x y))

  both_ways : (r : List ℕ) (mark : Mark) (under : ℕ)
      → ruled t.states compared r mark (conversed t.states (matched_rows t (conversed t.states r) under)) (matched_rows t r under)
      ≡ related_ex t compared r mark under
  unfolding ruled related_ex
  both_ways r mark under =
      rows_same t.states (rules compared r mark (conversed t.states (matched_rows t (conversed t.states r) under)) (matched_rows t r under))
      (λ x y. rel r x y && rule_b t (λ z. get_or compared z 0) (has mark.pass) (has mark.fail) (has under) (rel r) x y) m (λ x y l k.
      ap₂ (λ f b. rel r x y && ((has mark.pass x && has mark.pass y) || ((has mark.fail x && has mark.fail y)
      || (eqb (get_or compared x 0) (get_or compared y 0) && (f && b)))))
      (forth_at r under x y l k) (matched_at r under x y l k)
      ∙ again (rel r x y) (has mark.pass x && has mark.pass y) (has mark.fail x && has mark.fail y) (eqb (get_or compared x 0) (get_or compared y 0))
      (matched_b t (λ z. get_or compared z 0) (has under) (rel r) x y) (matched_by t r under x y))

  -- step by step as the code makes it
  pub ruled_ex : (r : List ℕ) (mark : Mark) (under : ℕ) {back opposite columns forth made : List ℕ} → back ≡ matched_rows t r under
      → opposite ≡ conversed t.states r → columns ≡ matched_rows t opposite under → forth ≡ conversed t.states columns
      → made ≡ ruled t.states compared r mark forth back → made ≡ related_ex t compared r mark under
  ruled_ex r mark under b t a f e = e ∙ rw (f, a, t, b) (both_ways r mark under)

-- The relation of states and the names of its classes, computed.
use Rattle.std.specs.Prelude.{Bool, true, not, ◌&&◌, ◌||◌, eqb, ℕ, ◌*◌}
use Rattle.meaning.specs.Table.{Table, assignments}
use Rattle.meaning.specs.Formula.{Formula, top, atom, neg, or, ex, eg, eu}
use Rattle.meaning.specs.View.{View}
use Rattle.meaning.specs.Reference.Tests.{all_below, lowest, shrink}
use Rattle.meaning.specs.Reference.Marks.{on_b, pass_b, fail_b}

module _ (t : Table) (compared : ℕ → ℕ) where
  -- a successor u of x has its match; all have; alike; the rule
  abbrev pub meet_b : (ℕ → Bool) → (ℕ → ℕ → Bool) → ℕ → ℕ → ℕ → ℕ → Bool
  meet_b f R x y a u = not (t.next x a u && not (f u)) || on_b t (R u) y a

  abbrev pub matched_b : (ℕ → Bool) → (ℕ → ℕ → Bool) → ℕ → ℕ → Bool
  matched_b f R x y = all_below (assignments t) (λ a. all_below t.states (meet_b f R x y a))

  abbrev pub alike_b : (ℕ → Bool) → (ℕ → ℕ → Bool) → ℕ → ℕ → Bool
  alike_b f R x y = eqb (compared x) (compared y) && (matched_b f R x y && matched_b f (λ u v. R v u) y x)

  abbrev pub rule_b : (ℕ → Bool) → (ℕ → Bool) → (ℕ → Bool) → (ℕ → ℕ → Bool) → ℕ → ℕ → Bool
  rule_b p q f R x y = (p x && p y) || ((q x && q y) || alike_b f R x y)

  -- one round, and the largest relation
  abbrev pub keep_b : (ℕ → ℕ → Bool) → (ℕ → Bool) → (ℕ → Bool) → (ℕ × ℕ → Bool) → ℕ × ℕ → Bool
  keep_b e p f R q = e q.0 q.1 && rule_b p f f (λ u v. R (u, v)) q.0 q.1

  abbrev pub largest_b : (ℕ → ℕ → Bool) → (ℕ → Bool) → (ℕ → Bool) → ℕ → ℕ → Bool
  largest_b e p f x y = shrink (keep_b e p f) (t.states * t.states) (x, y)

module _ {A : Type 0} (t : Table) (κ : View A) where
  abbrev pub rel_b : Formula A → ℕ → ℕ → Bool
  rel_b top x y = true
  rel_b (atom a) x y = κ.related a x y
  rel_b (neg φ) x y = rel_b φ x y
  rel_b (or φ ψ) x y = rel_b φ x y && rel_b ψ x y
  rel_b (ex φ) x y = rel_b φ x y && rule_b t κ.compared (pass_b t κ (ex φ)) (fail_b t κ (ex φ)) (fail_b t κ φ) (rel_b φ) x y
  rel_b (eg φ) x y = largest_b t κ.compared (rel_b φ) (pass_b t κ (eg φ)) (fail_b t κ (eg φ)) x y
  rel_b (eu φ ψ) x y = largest_b t κ.compared (λ u v. rel_b φ u v && rel_b ψ u v) (pass_b t κ (eu φ ψ)) (fail_b t κ (eu φ ψ)) x y

-- the name of a state's class for a tested equivalence: the lowest state that it is equivalent to
abbrev pub class_name : Table → (ℕ → ℕ → Bool) → ℕ → ℕ
class_name t e x = lowest t.states (e x)

-- document 01: the classes of the relation at the root
abbrev pub root_class : {A : Type 0} → Table → View A → Formula A → ℕ → ℕ
root_class t κ ρ = class_name t (rel_b t κ ρ)

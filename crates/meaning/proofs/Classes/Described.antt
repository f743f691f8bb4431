-- What document 01 says of the marks, the relation and the classes of one table, all of it in one record.
use mathlib.Core.Path.{◌≡◌}
use mathlib.Core.Logic.{◌↔◌}
use Prim.Native.Nat.{◌<◌, ℕ}
use Rattle.meaning.specs.Classes.{ClassNames}
use Rattle.meaning.specs.Formula.{Formula, eg, eu}
use Rattle.meaning.specs.Marks.{EgSet, EuSet, Fail, Inside, Pass}
use Rattle.meaning.specs.Reference.Marks.{fail_b, pass_b}
use Rattle.meaning.specs.Reference.Relation.{rel_b, root_class}
use Rattle.meaning.specs.Relation.{InsidePairs, KeepsRule, LargestRelation, Rel}
use Rattle.meaning.specs.Table.{Table}
use Rattle.meaning.specs.View.{View}
use Rattle.meaning.proofs.Basic.Decides.{Decides, DecidesPairs, both_decide}
use Rattle.meaning.proofs.Basic.Equivalence.{Equivalence}
use Rattle.meaning.proofs.Classes.Equivalence.{fail_back, pass_back, rel_decides, rel_equiv}
use Rattle.meaning.proofs.Classes.Largest.{relation_in, relation_out}
use Rattle.meaning.proofs.Classes.Names.{name_related, names_lowest, related_name}
use Rattle.meaning.proofs.Classes.SameMarks.{exclusive, fail_same, pass_same}
use Rattle.meaning.proofs.Marks.Decided.{fail_decides, pass_decides}
use Rattle.meaning.proofs.Marks.Laws.{Lawful}
use Rattle.meaning.proofs.Marks.Sets.{largest_in, largest_out, least_in_all, least_out}

module _ {A : Type 0} (t : Table) (κ : View A) where
  pub record Described : Type 1 where
    -- the computed marks are the marks
    pub marks : (φ : Formula A) → Decides t.states (pass_b t κ φ) (Pass t κ φ) × Decides t.states (fail_b t κ φ) (Fail t κ φ)
    -- no state is both
    pub exclusive : (φ : Formula A) (x : ℕ) → x < t.states → Pass t κ φ x → Fail t κ φ x → ⊥
    -- PASS of EG is a set of its kind, and every other lies inside
    pub largest_set : (φ : Formula A) → EgSet t (Pass t κ φ) (Pass t κ (eg φ))
        × ((X : ℕ → Type 0) → EgSet t (Pass t κ φ) X → Inside t X (Pass t κ (eg φ)))
    -- PASS of EU is a set of its kind, and every other holds it
    pub least_set : (φ ψ : Formula A) → EuSet t (Pass t κ φ) (Pass t κ ψ) (Pass t κ (eu φ ψ))
        × ((X : ℕ → Type 0) → EuSet t (Pass t κ φ) (Pass t κ ψ) X → Inside t (Pass t κ (eu φ ψ)) X)
    -- the computed relation is the relation, an equivalence; related states have the same marks
    pub relation : (φ : Formula A) → DecidesPairs t.states (rel_b t κ φ) (Rel t κ φ) × Equivalence t (Rel t κ φ)
    pub same_marks : (φ : Formula A) (x y : ℕ) → x < t.states → y < t.states → Rel t κ φ x y
        → (Pass t κ φ x ↔ Pass t κ φ y) × (Fail t κ φ x ↔ Fail t κ φ y)
    -- the relations of EG and EU keep their rule, and every other that does lies inside
    pub largest_eg : (φ : Formula A) → KeepsRule t κ.compared (Rel t κ φ) (Pass t κ (eg φ)) (Fail t κ (eg φ)) (Rel t κ (eg φ))
        × ((X : ℕ → ℕ → Type 0) → KeepsRule t κ.compared (Rel t κ φ) (Pass t κ (eg φ)) (Fail t κ (eg φ)) X
        → InsidePairs t X (Rel t κ (eg φ)))
    pub largest_eu : (φ ψ : Formula A)
        → KeepsRule t κ.compared (λ x y. Rel t κ φ x y × Rel t κ ψ x y) (Pass t κ (eu φ ψ)) (Fail t κ (eu φ ψ)) (Rel t κ (eu φ ψ))
        × ((X : ℕ → ℕ → Type 0)
        → KeepsRule t κ.compared (λ x y. Rel t κ φ x y × Rel t κ ψ x y) (Pass t κ (eu φ ψ)) (Fail t κ (eu φ ψ)) X
        → InsidePairs t X (Rel t κ (eu φ ψ)))
    -- a class is named by its lowest state, and two states have one name exactly if they are related at the root
    pub class_names_lem : (ρ : Formula A) → ClassNames t (Rel t κ ρ) (root_class t κ ρ)
    pub same_class : (ρ : Formula A) (x y : ℕ) → x < t.states → y < t.states → (root_class t κ ρ x ≡ root_class t κ ρ y) ↔ Rel t κ ρ x y

  pub root_names : Lawful t κ → (ρ : Formula A) → ClassNames t (Rel t κ ρ) (root_class t κ ρ)
  root_names law ρ = names_lowest t (Rel t κ ρ) (rel_equiv t κ law ρ) (rel_b t κ ρ) (rel_decides t κ law ρ)

  pub described : Lawful t κ → Described
  described law =
      record {
        marks = marks;
        exclusive = exclusive t κ law;
        largest_set = λ φ. (largest_out t, largest_in t (marks φ).0);
        least_set = λ φ ψ. (least_out t, least_in_all t (marks φ).0 (marks ψ).0);
        relation = λ φ. (rel_decides t κ law φ, rel_equiv t κ law φ);
        same_marks =
            λ φ x y l k r. (
              (pass_same t κ law φ x y l k r, pass_back t κ law φ x y l k r),
              (fail_same t κ law φ x y l k r, fail_back t κ law φ x y l k r),
            );
        largest_eg = λ φ. (keeps, relation_in t κ.compared (marks (eg φ)).0 (marks (eg φ)).1 (rel_decides t κ law φ));
        largest_eu =
            λ φ ψ. (
              keeps,
              relation_in t κ.compared (marks (eu φ ψ)).0 (marks (eu φ ψ)).1 (both_decide (rel_decides t κ law φ) (rel_decides t κ law ψ)),
            );
        class_names_lem = root_names law;
        same_class =
            λ ρ x y l k. (
              name_related t (Rel t κ ρ) (rel_equiv t κ law ρ) (root_class t κ ρ) (root_names law ρ) x y l k,
              related_name t (Rel t κ ρ) (rel_equiv t κ law ρ) (root_class t κ ρ) (root_names law ρ) x y l k,
            );
      }
    where
      marks : (φ : Formula A) → Decides t.states (pass_b t κ φ) (Pass t κ φ) × Decides t.states (fail_b t κ φ) (Fail t κ φ)
      marks φ = (pass_decides t κ law.total φ, fail_decides t κ law.total φ)

      keeps : {P F : ℕ → Type 0} {E : ℕ → ℕ → Type 0} → KeepsRule t κ.compared E P F (LargestRelation t κ.compared E P F)
      keeps x y l k r = relation_out t κ.compared l k r

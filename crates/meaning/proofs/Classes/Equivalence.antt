-- The relation at every node: tested, inside the relations of the nodes under it, and an equivalence. Transitivity tells the clauses of
-- the rule apart by the marks, which related states share.
use mathlib.Core.Path.{subst}
use Prim.Native.Nat.{◌<◌, ℕ}
use Rattle.meaning.specs.Formula.{Formula, atom, eg, eu, ex, neg, or, top}
use Rattle.meaning.specs.Marks.{Fail, Pass}
use Rattle.meaning.specs.Reference.Relation.{rel_b}
use Rattle.meaning.specs.Relation.{Rel, Rule}
use Rattle.meaning.specs.Table.{Table, Total}
use Rattle.meaning.specs.View.{View}
use Rattle.meaning.proofs.Basic.Decides.{DecidesPairs, both_decide}
use Rattle.meaning.proofs.Basic.Equivalence.{Equivalence}
use Rattle.meaning.proofs.Classes.Largest.{relation_decides, relation_out, relation_refl, relation_sym, relation_trans}
use Rattle.meaning.proofs.Classes.Rules.{Through, rule_decides, rule_flip, rule_map, rule_refl, rule_trans}
use Rattle.meaning.proofs.Classes.SameMarks.{fail_same, pass_same}
use Rattle.meaning.proofs.File.Formulas.{Follows, Part, Under, after_eg, after_eu, after_ex, of_eg, of_eu_l, of_eu_r, of_ex, of_neg}
use Rattle.meaning.proofs.File.Formulas.{of_or_l, of_or_r, under}
use Rattle.meaning.proofs.Marks.Decided.{fail_decides, pass_decides}
use Rattle.meaning.proofs.Marks.Laws.{Lawful}

module _ {A : Type 0} (t : Table) (κ : View A) where
  -- states related for a node are related for its operands, and for every node under it
  pub rel_part : {φ ψ : Formula A} → Part φ ψ → {x y : ℕ} → x < t.states → y < t.states → Rel t κ ψ x y → Rel t κ φ x y
  rel_part of_neg l k r = r
  rel_part of_or_l l k r = r.0
  rel_part of_or_r l k r = r.1
  rel_part of_ex l k r = r.0
  rel_part of_eg l k r = (relation_out t κ.compared l k r).0
  rel_part of_eu_l l k r = (relation_out t κ.compared l k r).0.0
  rel_part of_eu_r l k r = (relation_out t κ.compared l k r).0.1

  pub rel_under : {φ ψ : Formula A} → Under φ ψ → {x y : ℕ} → x < t.states → y < t.states → Rel t κ ψ x y → Rel t κ φ x y
  rel_under Under.itself l k r = r
  rel_under (under p u) l k r = rel_under u l k (rel_part p l k r)

  -- the last clause at a node φ of kind EX, EG or EU, whose paths go on with χ
  abbrev pub RuleAt : Formula A → Formula A → ℕ → ℕ → Type 0
  RuleAt φ χ = Rule t κ.compared (Pass t κ φ) (Fail t κ φ) (Fail t κ χ) (Rel t κ χ)

  pub rule_of : {φ χ : Formula A} → Follows φ χ → {x y : ℕ} → x < t.states → y < t.states → Rel t κ φ x y → RuleAt φ χ x y
  rule_of after_ex l k r = r.1
  rule_of after_eg l k r = (relation_out t κ.compared l k r).1
  rule_of after_eu l k r = (relation_out t κ.compared l k r).1

module _ {A : Type 0} (t : Table) (κ : View A) (law : Lawful t κ) where
  abbrev total : Total t
  total = law.total

  abbrev c : ℕ → ℕ
  c = κ.compared

  pub rel_decides : (φ : Formula A) → DecidesPairs t.states (rel_b t κ φ) (Rel t κ φ)
  rel_decides top = record { sound = λ x y l k h. tt; whole = λ x y l k h. tt }
  rel_decides (atom a) = record { sound = λ x y l k h. h; whole = λ x y l k h. h }
  rel_decides (neg φ) = rel_decides φ
  rel_decides (or φ ψ) = both_decide (rel_decides φ) (rel_decides ψ)
  rel_decides (ex φ) = rule_decides t c (pass_decides t κ total (ex φ)) (fail_decides t κ total (ex φ)) (fail_decides t κ total φ) (rel_decides φ)
      (rel_decides φ)
  rel_decides (eg φ) = relation_decides t c (pass_decides t κ total (eg φ)) (fail_decides t κ total (eg φ)) (rel_decides φ)
  rel_decides (eu φ ψ) = relation_decides t c (pass_decides t κ total (eu φ ψ)) (fail_decides t κ total (eu φ ψ))
      (both_decide (rel_decides φ) (rel_decides ψ))

  pub rel_refl : (φ : Formula A) (x : ℕ) → x < t.states → Rel t κ φ x x
  rel_refl top x l = tt
  rel_refl (atom a) x l = (law.equivalence a).refl x l
  rel_refl (neg φ) x l = rel_refl φ x l
  rel_refl (or φ ψ) x l = (rel_refl φ x l, rel_refl ψ x l)
  rel_refl (ex φ) x l = (rel_refl φ x l, rule_map t c (λ u w m n e. subst (λ w. Rel t κ φ u w) e (rel_refl φ u m)) x x (rule_refl t c x))
  rel_refl (eg φ) x l = relation_refl t c (pass_decides t κ total (eg φ)) (fail_decides t κ total (eg φ)) (rel_decides φ) (rel_refl φ) x l
  rel_refl (eu φ ψ) x l =
      relation_refl t c (pass_decides t κ total (eu φ ψ)) (fail_decides t κ total (eu φ ψ)) (both_decide (rel_decides φ) (rel_decides ψ))
      (λ u m. (rel_refl φ u m, rel_refl ψ u m)) x l

  pub rel_sym : (φ : Formula A) (x y : ℕ) → x < t.states → y < t.states → Rel t κ φ x y → Rel t κ φ y x
  rel_sym top x y l k r = tt
  rel_sym (atom a) x y l k r = (law.equivalence a).symm x y l k r
  rel_sym (neg φ) x y l k r = rel_sym φ x y l k r
  rel_sym (or φ ψ) x y l k r = (rel_sym φ x y l k r.0, rel_sym ψ x y l k r.1)
  rel_sym (ex φ) x y l k r = (rel_sym φ x y l k r.0, rule_map t c (λ u v m n z. rel_sym φ v u n m z) y x (rule_flip t c x y r.1))
  rel_sym (eg φ) x y l k r = relation_sym t c (rel_sym φ) x y r
  rel_sym (eu φ ψ) x y l k r = relation_sym t c (λ u v m n e. (rel_sym φ u v m n e.0, rel_sym ψ u v m n e.1)) x y r

  pub fail_back : (φ : Formula A) (x y : ℕ) → x < t.states → y < t.states → Rel t κ φ x y → Fail t κ φ y → Fail t κ φ x
  fail_back φ x y l k r h = fail_same t κ law φ y x k l (rel_sym φ x y l k r) h

  pub pass_back : (φ : Formula A) (x y : ℕ) → x < t.states → y < t.states → Rel t κ φ x y → Pass t κ φ y → Pass t κ φ x
  pass_back φ x y l k r h = pass_same t κ law φ y x k l (rel_sym φ x y l k r) h

  -- the rules of two related pairs, at a node φ whose successors are related for χ
  two_rules : (φ χ : Formula A) (x y z : ℕ) → x < t.states → y < t.states → z < t.states → Rel t κ φ x y → Rel t κ φ y z
      → RuleAt t κ φ χ x y → RuleAt t κ φ χ y z → Rule t c (Pass t κ φ) (Fail t κ φ) (Fail t κ χ) (Through t c (Rel t κ χ)) x z
  two_rules φ χ x y z l k m r s =
      rule_trans t c x y z (fail_back χ) (fail_same t κ law χ) (pass_back φ x y l k r) (pass_same t κ law φ y z k m s)
      (fail_back φ x y l k r) (fail_same t κ law φ y z k m s)

  pub rel_trans : (φ : Formula A) (x y z : ℕ) → x < t.states → y < t.states → z < t.states → Rel t κ φ x y → Rel t κ φ y z → Rel t κ φ x z
  rel_trans top x y z l k m r s = tt
  rel_trans (atom a) x y z l k m r s = (law.equivalence a).trans x y z l k m r s
  rel_trans (neg φ) x y z l k m r s = rel_trans φ x y z l k m r s
  rel_trans (or φ ψ) x y z l k m r s = (rel_trans φ x y z l k m r.0 s.0, rel_trans ψ x y z l k m r.1 s.1)
  rel_trans (ex φ) x y z l k m r s = (
    rel_trans φ x y z l k m r.0 s.0,
    rule_map t c (λ u w a b d. rel_trans φ u d.0 w a d.1 b d.2 d.3) x z
        (two_rules (ex φ) φ x y z l k m r s r.1 s.1),
  )
  rel_trans (eg φ) x y z l k m r s =
      relation_trans t c (pass_decides t κ total (eg φ)) (fail_decides t κ total (eg φ)) (rel_decides φ) (rel_trans φ)
      (two_rules (eg φ) (eg φ)) x y z l k m r s
  rel_trans (eu φ ψ) x y z l k m r s =
      relation_trans t c (pass_decides t κ total (eu φ ψ)) (fail_decides t κ total (eu φ ψ)) (both_decide (rel_decides φ) (rel_decides ψ))
      (λ u v w a b d p q. (rel_trans φ u v w a b d p.0 q.0, rel_trans ψ u v w a b d p.1 q.1))
      (two_rules (eu φ ψ) (eu φ ψ)) x y z l k m r s

  pub rel_equiv : (φ : Formula A) → Equivalence t (Rel t κ φ)
  rel_equiv φ = record { refl = rel_refl φ; symm = rel_sym φ; trans = rel_trans φ }

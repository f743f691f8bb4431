-- Where less is compared, more states are related, and classes only grow (document 02, 3/14).
use mathlib.Core.Path.{◌≡◌, subst, sym}
use lib.Dec.{T}
use Prim.Native.Nat.{ℕ}
use Rattle.meaning.specs.Formula.{Formula, atom, eg, eu, ex, neg, or, top}
use Rattle.meaning.specs.Marks.{Fail, Pass}
use Rattle.meaning.specs.Relation.{InsidePairs, Rel, Rule, alike, failed, passed}
use Rattle.meaning.specs.Table.{Table}
use Rattle.meaning.specs.View.{View, recompared}
use Rattle.meaning.proofs.Marks.Compared.{marks_same}

module _ {A : Type 0} (t : Table) (κ : View A) (d : ℕ → ℕ) (less : (x y : ℕ) → κ.compared x ≡ κ.compared y → d x ≡ d y) where
  abbrev κ' : View A
  κ' = recompared κ d

  pass_on : (φ : Formula A) (x : ℕ) → Pass t κ φ x → Pass t κ' φ x
  pass_on φ x p = subst (λ P. P x) (marks_same t κ d φ).0 p

  fail_on : (φ : Formula A) (x : ℕ) → Fail t κ φ x → Fail t κ' φ x
  fail_on φ x p = subst (λ P. P x) (marks_same t κ d φ).1 p

  fail_back : (φ : Formula A) (x : ℕ) → Fail t κ' φ x → Fail t κ φ x
  fail_back φ x p = subst (λ P. P x) (sym (marks_same t κ d φ).1) p

  -- the rule of a node φ whose successors need no match where they are FAIL of χ
  rule_on : (φ χ : Formula A) (R R' : ℕ → ℕ → Type 0) → InsidePairs t R R' → (x y : ℕ)
      → Rule t κ.compared (Pass t κ φ) (Fail t κ φ) (Fail t κ χ) R x y → Rule t d (Pass t κ' φ) (Fail t κ' φ) (Fail t κ' χ) R' x y
  rule_on φ χ R R' on x y (passed p q) = passed (pass_on φ x p) (pass_on φ y q)
  rule_on φ χ R R' on x y (failed p q) = failed (fail_on φ x p) (fail_on φ y q)
  rule_on φ χ R R' on x y (alike a) =
      alike
      (record {
        same = less x y a.same;
        forth = λ e b u s z. let (v, r, q) = a.forth e b u s (λ f. z (fail_on χ u f)) in (v, r, on u v s.0 r.0 q);
        back = λ e b u s z. let (v, r, q) = a.back e b u s (λ f. z (fail_on χ u f)) in (v, r, on v u r.0 s.0 q);
      })

  pub coarser : (φ : Formula A) → InsidePairs t (Rel t κ φ) (Rel t κ' φ)
  coarser top x y l k r = tt
  coarser (atom a) x y l k r = r
  coarser (neg φ) x y l k r = coarser φ x y l k r
  coarser (or φ ψ) x y l k r = (coarser φ x y l k r.0, coarser ψ x y l k r.1)
  coarser (ex φ) x y l k r = (coarser φ x y l k r.0, rule_on (ex φ) φ (Rel t κ φ) (Rel t κ' φ) (coarser φ) x y r.1)
  coarser (eg φ) x y l k r =
      record {
        rel = r.rel;
        here = r.here;
        keeps =
            λ u v m n q.
            let z = r.keeps u v m n q in
            (coarser φ u v m n z.0, rule_on (eg φ) (eg φ) (λ u v. T (r.rel u v)) (λ u v. T (r.rel u v)) (λ u v m n q. q) u v z.1);
      }
  coarser (eu φ ψ) x y l k r =
      record {
        rel = r.rel;
        here = r.here;
        keeps =
            λ u v m n q.
            let z = r.keeps u v m n q in (
              (coarser φ u v m n z.0.0, coarser ψ u v m n z.0.1),
              rule_on (eu φ ψ) (eu φ ψ) (λ u v. T (r.rel u v)) (λ u v. T (r.rel u v)) (λ u v m n q. q) u v z.1,
            );
      }

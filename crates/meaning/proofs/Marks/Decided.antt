-- PASS and FAIL are what is computed.
use Rattle.meaning.specs.Formula.{Formula, atom, eg, eu, ex, neg, or, top}
use Rattle.meaning.specs.Marks.{Fail, Pass}
use Rattle.meaning.specs.Reference.Marks.{fail_b, pass_b}
use Rattle.meaning.specs.Table.{Table, Total}
use Rattle.meaning.specs.View.{View}
use Rattle.meaning.proofs.Basic.Decides.{Decides, and_decides, or_decides, test_decides}
use Rattle.meaning.proofs.Marks.Paths.{meets_decides, stays_decides}
use Rattle.meaning.proofs.Marks.Sets.{largest_decides, least_decides}
use Rattle.meaning.proofs.Meaning.TableSteps.{all_decides, must_decides}

module _ {A : Type 0} (t : Table) (κ : View A) (total : Total t) where
  mutual
    pub pass_decides : (φ : Formula A) → Decides t.states (pass_b t κ φ) (Pass t κ φ)
    pass_decides top = record { sound = λ x l h. tt; whole = λ x l h. tt }
    pass_decides (atom a) = test_decides (κ.pass a)
    pass_decides (neg φ) = fail_decides φ
    pass_decides (or φ ψ) = or_decides (pass_decides φ) (pass_decides ψ)
    pass_decides (ex φ) = must_decides t (pass_decides φ)
    pass_decides (eg φ) = largest_decides t (pass_decides φ)
    pass_decides (eu φ ψ) = least_decides t (pass_decides φ) (pass_decides ψ)

    pub fail_decides : (φ : Formula A) → Decides t.states (fail_b t κ φ) (Fail t κ φ)
    fail_decides top = record { sound = λ x l h. h; whole = λ x l h. h }
    fail_decides (atom a) = test_decides (κ.fail a)
    fail_decides (neg φ) = pass_decides φ
    fail_decides (or φ ψ) = and_decides (fail_decides φ) (fail_decides ψ)
    fail_decides (ex φ) = all_decides t (fail_decides φ)
    fail_decides (eg φ) = meets_decides t (fail_decides φ)
    fail_decides (eu φ ψ) = stays_decides t total (fail_decides φ) (fail_decides ψ)

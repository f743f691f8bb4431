-- Operands of formulas, what stands under a formula, and what a path goes on with.
use Rattle.meaning.specs.Formula.{Formula, eg, eu, ex, neg, or}

-- φ is an operand of ψ
pub data Part {A : Type 0} (φ : Formula A) : Formula A → Type 0 where
  of_neg : Part φ (neg φ)
  of_or_l : {ψ : Formula A} → Part φ (or φ ψ)
  of_or_r : {ψ : Formula A} → Part φ (or ψ φ)
  of_ex : Part φ (ex φ)
  of_eg : Part φ (eg φ)
  of_eu_l : {ψ : Formula A} → Part φ (eu φ ψ)
  of_eu_r : {ψ : Formula A} → Part φ (eu ψ φ)

-- φ is ψ or stands under it
pub data Under {A : Type 0} (φ : Formula A) : Formula A → Type 0 where
  itself : Under φ φ
  under : {ψ χ : Formula A} → Part ψ χ → Under φ ψ → Under φ χ

-- what a path that makes φ true goes on with after one step: at EX the operand, at EG and EU the node
pub data Follows {A : Type 0} : Formula A → Formula A → Type 0 where
  after_ex : {φ : Formula A} → Follows (ex φ) φ
  after_eg : {φ : Formula A} → Follows (eg φ) (eg φ)
  after_eu : {φ ψ : Formula A} → Follows (eu φ ψ) (eu φ ψ)

-- PASS and FAIL, the marks of a component's states for a formula (document 01, Marks; 001, Definition 1). They depend on the component's own
-- table and the formula, and on nothing else.
use Rattle.std.specs.Prelude.{◌≡◌, ◌⊎◌, Bool, T, ℕ, ◌≤◌, ◌<◌}
use Rattle.meaning.specs.Paths.{IsPath}
use Rattle.meaning.specs.Table.{Table, assignments, Successor}
use Rattle.meaning.specs.Formula.{Formula, top, atom, neg, or, ex, eg, eu}
use Rattle.meaning.specs.View.{View}

-- in P at every step up to and including i
abbrev pub UpTo : (ℕ → Type 0) → (ℕ → ℕ) → ℕ → Type 0
UpTo P π i = (k : ℕ) → k ≤ i → P (π k)

module _ (t : Table) where
  -- the states of X lie in Y
  abbrev pub Inside : (ℕ → Type 0) → (ℕ → Type 0) → Type 0
  Inside X Y = (x : ℕ) → x < t.states → X x → Y x

  -- a step of the component's own paths, on any assignment
  abbrev pub Move : ℕ → ℕ → Type 0
  Move x y = (a : ℕ) × (a < assignments t) × Successor t x a y

  -- on every assignment some successor is in P
  abbrev pub Must : (ℕ → Type 0) → ℕ → Type 0
  Must P x = (a : ℕ) → a < assignments t → (y : ℕ) × Successor t x a y × P y

  -- EG: a set inside P that on every assignment has a successor in the set; and membership in the largest: in some such set
  abbrev pub EgSet : (ℕ → Type 0) → (ℕ → Type 0) → Type 0
  EgSet P X = Inside X (λ x. P x × Must X x)

  abbrev pub Largest : (ℕ → Type 0) → ℕ → Type 0
  Largest P x = (Z : ℕ → Bool) × T (Z x) × EgSet P (λ y. T (Z y))

  -- EU: a set that holds Q, and each state in P with, on every assignment, a successor in the set; and membership in the least: in every
  -- such set
  abbrev pub EuSet : (ℕ → Type 0) → (ℕ → Type 0) → (ℕ → Type 0) → Type 0
  EuSet P Q X = Inside Q X × Inside (λ x. P x × Must X x) X

  abbrev pub Least : (ℕ → Type 0) → (ℕ → Type 0) → ℕ → Type 0
  Least P Q x = (Z : ℕ → Bool) → EuSet P Q (λ y. T (Z y)) → T (Z x)

  -- EG: every path meets F
  abbrev pub Meets : (ℕ → Type 0) → ℕ → Type 0
  Meets F x = (π : ℕ → ℕ) → IsPath Move π → π 0 ≡ x → (i : ℕ) × F (π i)

  -- EU: every path stays in G, for ever or up to and including a state in F. Said of each step i of the path: it has stayed in G up to i,
  -- or up to and including a state in F before i. (proofs/Marks/Stays: what holds between this and the words for a whole path.)
  abbrev pub Stays : (ℕ → Type 0) → (ℕ → Type 0) → ℕ → Type 0
  Stays F G x = (π : ℕ → ℕ) → IsPath Move π → π 0 ≡ x → (i : ℕ) → UpTo G π i ⊎ ((j : ℕ) × (j < i) × F (π j) × UpTo G π j)

-- the marks, kind by kind; at atoms as the view says
module _ {A : Type 0} (t : Table) (κ : View A) where
  abbrev mutual
    pub Pass : Formula A → ℕ → Type 0
    Pass top x = Unit {0}
    Pass (atom a) x = T (κ.pass a x)
    Pass (neg φ) x = Fail φ x
    Pass (or φ ψ) x = Pass φ x ⊎ Pass ψ x
    Pass (ex φ) x = Must t (Pass φ) x
    Pass (eg φ) x = Largest t (Pass φ) x
    Pass (eu φ ψ) x = Least t (Pass φ) (Pass ψ) x

    pub Fail : Formula A → ℕ → Type 0
    Fail top x = ⊥
    Fail (atom a) x = T (κ.fail a x)
    Fail (neg φ) x = Pass φ x
    Fail (or φ ψ) x = Fail φ x × Fail ψ x
    Fail (ex φ) x = (y : ℕ) → Move t x y → Fail φ y
    Fail (eg φ) x = Meets t (Fail φ) x
    Fail (eu φ ψ) x = Stays t (Fail φ) (Fail ψ) x

-- One component's merged table: its steps are the members' steps, and it has no dead end.
use mathlib.Core.Path.{◌≡◌, subst, sym}
use mathlib.Core.Bool.{Bool, ◌&&◌}
use lib.Dec.{T, eqb, eqb_refl, eqb→eq}
use Prim.Native.Nat.{◌<◌, ℕ}
use Rattle.meaning.specs.Classes.{ClassNames, class_number, lowest_of}
use Rattle.meaning.specs.Merged.{merged_table}
use Rattle.meaning.specs.Table.{Successor, Table, Total}
use Rattle.meaning.specs.Tests.{any_below}
use Rattle.meaning.proofs.Basic.Booleans.{conj}
use Rattle.meaning.proofs.Basic.Bounded.{any_in, any_out}
use Rattle.meaning.proofs.Basic.Equivalence.{Equivalence}
use Rattle.meaning.proofs.Classes.Names.{name_lt, name_name, name_related, related_name}
use Rattle.meaning.proofs.Merged.Numbers.{lowest_lt, lowest_number, number_lt}

module _ (t : Table) (E : ℕ → ℕ → Type 0) (eqv : Equivalence t E) (cls : ℕ → ℕ) (names : ClassNames t E cls) where
  abbrev M : Table
  M = merged_table t cls

  -- the lowest state of class k
  abbrev low : ℕ → ℕ
  low = lowest_of t cls

  pub class_lt : (x : ℕ) → x < t.states → class_number cls x < M.states
  class_lt x l = number_lt cls t x (name_lt t E eqv cls names x l) (name_name t E eqv cls names x l)

  -- the lowest state of a state's class is its name, which is related to it
  pub class_low : (x : ℕ) → x < t.states → low (class_number cls x) ≡ cls x
  class_low x l = lowest_number cls t x (name_lt t E eqv cls names x l) (name_name t E eqv cls names x l)

  pub low_related : (x : ℕ) → x < t.states → E x (low (class_number cls x))
  low_related x l = subst (λ z. E x z) (sym (class_low x l)) (names.member x l)

  -- y of class l is a successor of x of class k
  abbrev steps : ℕ → ℕ → ℕ → ℕ → ℕ → Bool
  steps k a l x y = eqb (cls x) (cls (low k)) && (t.next x a y && eqb (cls y) (low l))

  eq-eqb : (x y : ℕ) → x ≡ y → T (eqb x y)
  eq-eqb x y e = subst (λ z. T (eqb x z)) e (eqb_refl x)

  -- a member's step is a step of the class
  pub merged_in : (k x a y : ℕ) → k < M.states → x < t.states → E (low k) x → Successor t x a y → Successor M k a (class_number cls y)
  merged_in k x a y b l r s =
      let p = eq-eqb (cls x) (cls (low k)) (sym (related_name t E eqv cls names (low k) x (lowest_lt cls t k b) l r)) in
      let q = eq-eqb (cls y) (low (class_number cls y)) (sym (class_low y s.0)) in
      let r = s.1 in
      let both : T (steps k a (class_number cls y) x y) = search conj in (
        class_lt y s.0,
        any_in t.states (λ x. any_below t.states (steps k a (class_number cls y) x)) x l
            (any_in t.states (steps k a (class_number cls y) x) y s.0 both),
      )

  -- a step of the class is some member's
  pub merged_out : (k a l : ℕ) → k < M.states → Successor M k a l
      → (x : ℕ) × (x < t.states) × E (low k) x × ((y : ℕ) × Successor t x a y × E y (low l))
  merged_out k a l b (c, h) =
      let (x, m, g) = any_out t.states (λ x. any_below t.states (steps k a l x)) h in
      let (y, o, f) = any_out t.states (steps k a l x) g in
      let p : cls x ≡ cls (low k) = eqb→eq (cls x) (cls (low k)) (search conj) in
      let q : cls y ≡ low l = eqb→eq (cls y) (low l) (search conj) in (
        x,
        m,
        name_related t E eqv cls names (low k) x (lowest_lt cls t k b) m (sym p),
        (y, (o, search conj), subst (λ z. E y z) q (names.member y o)),
      )

  pub merged_total : Total t → Total M
  merged_total total k a b z =
      let x = low k in
      let l = lowest_lt cls t k b in
      let (y, s) = total x a l z in
      (class_number cls y, merged_in k x a y b l (eqv.refl x l) s)

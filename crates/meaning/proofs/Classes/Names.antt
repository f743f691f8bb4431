-- Class names of a tested equivalence: the lowest equivalent state; two states have one name exactly if they are equivalent.
use mathlib.Core.Path.{◌≡◌, subst, sym}
use mathlib.Core.Bool.{Bool}
use native.Mathlib.Omega.{arith}
use Prim.Native.Nat.{◌<◌, ◌≤◌, ℕ}
use Rattle.meaning.specs.Classes.{ClassNames}
use Rattle.meaning.specs.Reference.Relation.{class_name}
use Rattle.meaning.specs.Table.{Table}
use Rattle.meaning.proofs.Basic.Bounded.{any_in, lowest_hit, lowest_le}
use Rattle.meaning.proofs.Basic.Decides.{DecidesPairs}
use Rattle.meaning.proofs.Basic.Equivalence.{Equivalence}

module _ (t : Table) (E : ℕ → ℕ → Type 0) (eqv : Equivalence t E) where
  pub names_lowest : (e : ℕ → ℕ → Bool) → DecidesPairs t.states e E → ClassNames t E (class_name t e)
  names_lowest e d =
      record {
        member =
            λ x l.
            let h = lowest_hit t.states (e x) (any_in t.states (e x) x l (d.whole x x l l (eqv.refl x l))) in
            d.sound x (class_name t e x) l h.1 h.0;
        lowest = λ x y l k r. lowest_le t.states (e x) y k (d.whole x y l k r);
      }

  module _ (cls : ℕ → ℕ) (names : ClassNames t E cls) where
    pub name_lt : (x : ℕ) → x < t.states → cls x < t.states
    name_lt x l = let h : cls x ≤ x = names.lowest x x l l (eqv.refl x l) in omega arith

    name_le : (x y : ℕ) → x < t.states → y < t.states → E x y → cls x ≤ cls y
    name_le x y l k r = names.lowest x (cls y) l (name_lt y k) (eqv.trans x y (cls y) l k (name_lt y k) r (names.member y k))

    pub related_name : (x y : ℕ) → x < t.states → y < t.states → E x y → cls x ≡ cls y
    related_name x y l k r = let a = name_le x y l k r in let b = name_le y x k l (eqv.symm x y l k r) in omega arith

    pub name_related : (x y : ℕ) → x < t.states → y < t.states → cls x ≡ cls y → E x y
    name_related x y l k e =
        eqv.trans x (cls y) y l (name_lt y k) k (subst (λ z. E x z) e (names.member x l))
        (eqv.symm y (cls y) k (name_lt y k) (names.member y k))

    -- a class's name is a member of it
    pub name_name : (x : ℕ) → x < t.states → cls (cls x) ≡ cls x
    name_name x l = sym (related_name x (cls x) l (name_lt x l) (names.member x l))

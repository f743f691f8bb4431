-- What the names and the members of classes mean, in document 01's words (Classes).
use mathlib.Core.Path.{◌≡◌, sym, subst}
use mathlib.Core.Logic.{◌↔◌}
use mathlib.Core.List.{List}
use lib.Dec.{T, eqb, eqb→eq, eqb_refl}
use lib.ListN.{get_or}
use Prim.Native.Nat.{ℕ, ◌≤◌, ◌<◌}
use Rattle.words.specs.Sets.{has}
use Rattle.words.proofs.Built.{has_built}
use Rattle.meaning.specs.Table.{Table}
use Rattle.meaning.specs.Classes.{ClassNames}
use Rattle.meaning.proofs.Basic.Equivalence.{Equivalence}
use Rattle.meaning.specs.Reference.Relation.{class_name}
use Rattle.meaning.proofs.Basic.Bounded.{any_in}
use Rattle.meaning.proofs.Basic.Decides.{DecidesPairs}
use Rattle.meaning.proofs.Classes.Names.{names_lowest, name_related, related_name}
use Rattle.meaning.specs.File.Grammar.{most_states}
use Rattle.classes.specs.Rows.{rel}
use Rattle.class_names.specs.Names.{Inhabited, class_names_of, member_word}
use Rattle.classes.proofs.Padded.{padded_at}

-- classes of an equivalence that rows decide
module _ (t : Table) (m : t.states ≤ most_states) (r : List ℕ) {E : ℕ → ℕ → Type 0} (eqv : Equivalence t E) (d : DecidesPairs t.states (rel r) E) where
  pub inhabited : Inhabited t.states r
  inhabited = record { some = λ x l. any_in t.states (rel r x) x l (d.whole x x l l (eqv.refl x l)) }

  -- the name at a state's place
  abbrev pub name_at : ℕ → ℕ
  name_at x = get_or (class_names_of r t.states) x 0

  name_is : (x : ℕ) → x < t.states → name_at x ≡ class_name t (rel r) x
  unfolding class_names_of
  name_is x l = padded_at most_states t.states (λ x. class_name t (rel r) x) x l m

  -- a class is named by its lowest state
  pub names_are : ClassNames t E name_at
  names_are =
      record {
        member = λ x l. subst (λ z. E x z) (sym (name_is x l)) ((names_lowest t E eqv (rel r) d).member x l);
        lowest = λ x y l k h. subst (λ z. z ≤ y) (sym (name_is x l)) ((names_lowest t E eqv (rel r) d).lowest x y l k h);
      }

  -- the members of y's class are the states equivalent to y
  pub members_are : (x y : ℕ) → x < t.states → y < t.states
      → T (has (member_word (class_names_of r t.states) t.states (name_at y)) x) ↔ E x y
  unfolding member_word
  members_are x y l k = (
    λ h. name_related t E eqv name_at names_are x y l k (eqb→eq (name_at x) (name_at y) (subst T e h)),
    λ h. subst T (sym e)
        (subst (λ z. T (eqb (name_at x) z)) (related_name t E eqv name_at names_are x y l k h) (eqb_refl (name_at x))),
  )
    where
      e : has (member_word (class_names_of r t.states) t.states (name_at y)) x ≡ eqb (name_at x) (name_at y)
      e = has_built t.states (λ x. eqb (name_at x) (name_at y)) x l

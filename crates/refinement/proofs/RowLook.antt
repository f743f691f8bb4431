-- A row of the relation is looked at, and the pairs whose test may have changed are noted: what the work keeps.
use mathlib.Core.Path.{◌≡◌, sym, subst}
use mathlib.Core.Logic.{◌⊎◌, inl, inr, ◌≢◌}
use mathlib.Core.Bool.{Bool, not, ◌&&◌}
use lib.Dec.{T, T_not}
use native.Mathlib.Decide.{ℕ_discrete}
use Prim.Native.Nat.{ℕ, ◌^◌, ◌<◌}
use Rattle.words.specs.Sets.{has}
use Rattle.meaning.specs.Table.{Table, assignments, Successor}
use Rattle.mark_rules.specs.declared.Mark.{Mark}
use Rattle.meaning.specs.Reference.Relation.{matched_b}
use Rattle.meaning.proofs.Basic.Booleans.{and_in, and_l, and_r, or_l, or_r, or_out, dec-T, test_eq}
use Rattle.meaning.proofs.Basic.Decides.{test_decides}
use Rattle.meaning.proofs.Classes.Rules.{match_in, match_out, matched_at}
use Rattle.classes.specs.Rows.{rel}
use Rattle.refinement.specs.declared.side.Side.{Side}
use Rattle.refinement.specs.Again.{known_b, fine_b, Cut, Working}

module _ (t : Table) (mark : Mark) where
  abbrev fine : (ℕ → ℕ → Bool) → ℕ → ℕ → Bool
  fine R x y = fine_b t mark R x y

  -- a pair stays fine where the pairs of their successors stay related
  pub fine_at : (R S : ℕ → ℕ → Bool) (x y : ℕ)
      → ((a v u : ℕ) → a < assignments t → Successor t x a v → Successor t y a u → T (R v u) → T (S v u)) → T (fine R x y) → T (fine S x y)
  fine_at R S x y f h = on (or_out (known_b mark x y) (matched_b t (λ z. 0) (has mark.fail) (λ u v. R v u) y x) h)
    where
      on : T (known_b mark x y) ⊎ T (matched_b t (λ z. 0) (has mark.fail) (λ u v. R v u) y x) → T (fine S x y)
      on (inl k) = or_l (known_b mark x y) (matched_b t (λ z. 0) (has mark.fail) (λ u v. S v u) y x) k
      on (inr m) =
          or_r (known_b mark x y) (matched_b t (λ z. 0) (has mark.fail) (λ u v. S v u) y x)
          (match_in t (λ z. 0) (test_decides (has mark.fail)) (λ u v. S v u) y x
          (matched_at t (λ z. 0) y x (λ a u v l s r i. f a v u l r s i)
          (match_out t (λ z. 0) (test_decides (has mark.fail)) (λ u v. R v u) y x m)))

  -- the work seen from the converse
  pub working_turned : {E L : ℕ → ℕ → Bool} {A B : Side} → Working t mark E L A B
      → Working t mark (λ x y. E y x) (λ x y. L y x) B A
  working_turned w =
      record {
        fine = w.back;
        back = w.fine;
        inside = λ x y l k i. w.inside y x k l (subst T (w.turned y x k l) i);
        holds = λ x y l k i. subst T (sym (w.turned y x k l)) (w.holds y x k l i);
        turned = λ x y l k. sym (w.turned y x k l);
        one = w.two;
        two = w.one;
      }

  -- Row x is looked at: the pairs in `failed` go, and what may have changed is noted. `others` are the predecessors of what failed.
  module _ (before : ℕ → ℕ → Bool) (x failed others : ℕ) where
    -- what goes
    abbrev pub Gone : ℕ → ℕ → Type 0
    Gone z w = (z ≡ x) × T (has failed w)

    pub record Look (A B A' B' : Side) : Type 0 where
      -- those in row x that are to be looked at and are not fine
      pub breaks : (w : ℕ) → T (has failed w) → T (fine (rel A.rows) x w) → ⊥
      pub looked : (w : ℕ) → w < t.states → T (rel A.rows x w) → T (rel A.again x w) → T (has failed w) ⊎ T (fine (rel A.rows) x w)
      pub spread : (y w : ℕ) → w < t.states → T (has failed y) → T (before y w) → T (has others w)
      -- they go out of both
      pub cut : Cut t.states A'.rows
      pub cut_back : Cut t.states B'.rows
      pub fewer : (z w : ℕ) → T (rel A'.rows z w) → T (rel A.rows z w) × (Gone z w → ⊥)
      pub rest : (z w : ℕ) → T (rel A.rows z w) → (Gone z w → ⊥) → T (rel A'.rows z w)
      pub fewer_back : (w z : ℕ) → T (rel B'.rows w z) → T (rel B.rows w z) × (Gone z w → ⊥)
      pub rest_back : (w z : ℕ) → T (rel B.rows w z) → (Gone z w → ⊥) → T (rel B'.rows w z)
      -- pairs of a predecessor of x and one of what failed are noted
      pub old : (z w : ℕ) → z ≢ x → T (rel A.again z w) → T (rel A'.again z w)
      pub old_back : (w z : ℕ) → T (rel B.again w z) → T (rel B'.again w z)
      pub noted : (z w : ℕ) → T (before x z) → T (has others w) → T (rel A'.again z w) × T (rel B'.again w z)
      pub only : (z w : ℕ) → z < t.states → T (rel A'.again z w) → T (has A'.todo z)
      pub only_back : (w z : ℕ) → w < t.states → T (rel B'.again w z) → T (has B'.todo w)
      pub narrow : A'.todo < 2 ^ t.states
      pub narrow_back : B'.todo < 2 ^ t.states

    module _ {E L : ℕ → ℕ → Bool} {A B A' B' : Side}
        (prior : (z v a : ℕ) → z < t.states → a < assignments t → Successor t z a v → T (before v z))
        (x-state : x < t.states)
        (w : Working t mark E L A B)
        (k : Look A B A' B') where
      -- a pair of which no successors went out is as fine as before
      stays : (z w : ℕ) → z < t.states → w < t.states → T (fine (rel A.rows) z w) → T (rel A'.again z w) ⊎ T (fine (rel A'.rows) z w)
      stays z w l m f = on (dec-T (before x z && has others w))
        where
          kept : T (not (before x z && has others w)) → (a v u : ℕ) → a < assignments t → Successor t z a v → Successor t w a u → T (rel A.rows v u) → T (rel A'.rows v u)
          kept n a v u b p q i =
              k.rest v u i (λ g.
              T_not (before x z && has others w) n
              (and_in (before x z) (has others w) (subst (λ v. T (before v z)) g.0 (prior z v a l b p))
              (k.spread u w m g.1 (prior w u a m b q))))

          on : T (before x z && has others w) ⊎ T (not (before x z && has others w)) → T (rel A'.again z w) ⊎ T (fine (rel A'.rows) z w)
          on (inl h) = inl (k.noted z w (and_l (before x z) (has others w) h) (and_r (before x z) (has others w) h)).0
          on (inr n) = inr (fine_at (rel A.rows) (rel A'.rows) z w (kept n) f)

      stays_back : (w z : ℕ) → w < t.states → z < t.states → T (fine (rel B.rows) w z) → T (rel B'.again w z) ⊎ T (fine (rel B'.rows) w z)
      stays_back w z m l f = on (dec-T (before x z && has others w))
        where
          kept : T (not (before x z && has others w)) → (a v u : ℕ) → a < assignments t → Successor t w a v → Successor t z a u → T (rel B.rows v u) → T (rel B'.rows v u)
          kept n a v u b p q i =
              k.rest_back v u i (λ g.
              T_not (before x z && has others w) n
              (and_in (before x z) (has others w) (subst (λ u. T (before u z)) g.0 (prior z u a l b q))
              (k.spread v w m g.1 (prior w v a m b p))))

          on : T (before x z && has others w) ⊎ T (not (before x z && has others w)) → T (rel B'.again w z) ⊎ T (fine (rel B'.rows) w z)
          on (inl h) = inl (k.noted z w (and_l (before x z) (has others w) h) (and_r (before x z) (has others w) h)).1
          on (inr n) = inr (fine_at (rel B.rows) (rel B'.rows) w z (kept n) f)

      settled : (z w : ℕ) → z < t.states → w < t.states → T (rel A'.rows z w) → T (rel A'.again z w) ⊎ T (fine (rel A'.rows) z w)
      settled z y l m i =
          elim (ℕ_discrete z x) [
            | yes p ↦ at p (w.one.settled z y l m (k.fewer z y i).0)
            | no p ↦ off p (w.one.settled z y l m (k.fewer z y i).0)
          ]
        where
          at : z ≡ x → T (rel A.again z y) ⊎ T (fine (rel A.rows) z y) → T (rel A'.again z y) ⊎ T (fine (rel A'.rows) z y)
          at p (inr f) = stays z y l m f
          at p (inl g) =
              look (k.looked y m (subst (λ z. T (rel A.rows z y)) p (k.fewer z y i).0) (subst (λ z. T (rel A.again z y)) p g))
            where
              look : T (has failed y) ⊎ T (fine (rel A.rows) x y) → T (rel A'.again z y) ⊎ T (fine (rel A'.rows) z y)
              look (inl f) = absurd ((k.fewer z y i).1 (p, f))
              look (inr f) = stays z y l m (subst (λ z. T (fine (rel A.rows) z y)) (sym p) f)

          off : z ≢ x → T (rel A.again z y) ⊎ T (fine (rel A.rows) z y) → T (rel A'.again z y) ⊎ T (fine (rel A'.rows) z y)
          off p (inl g) = inl (k.old z y p g)
          off p (inr f) = stays z y l m f

      settled_back : (y z : ℕ) → y < t.states → z < t.states → T (rel B'.rows y z) → T (rel B'.again y z) ⊎ T (fine (rel B'.rows) y z)
      settled_back y z m l i = on (w.two.settled y z m l (k.fewer_back y z i).0)
        where
          on : T (rel B.again y z) ⊎ T (fine (rel B.rows) y z) → T (rel B'.again y z) ⊎ T (fine (rel B'.rows) y z)
          on (inl g) = inl (k.old_back y z g)
          on (inr f) = stays_back y z m l f

      pub working_looked : Working t mark E L A' B'
      working_looked =
          record {
            fine = w.fine;
            back = w.back;
            inside = λ z y l m i. w.inside z y l m (k.fewer z y i).0;
            holds = λ z y l m i.
                k.rest z y (w.holds z y l m i) (λ g.
                k.breaks y g.1
                (subst (λ z. T (fine (rel A.rows) z y)) g.0
                (fine_at _ (rel A.rows) z y (λ a v u b p q h. w.holds v u p.0 q.0 h) (w.fine.each z y l m i))));
            turned = λ z y l m.
                test_eq (rel B'.rows y z) (rel A'.rows z y)
                (λ i. let f = k.fewer_back y z i in k.rest z y (subst T (w.turned z y l m) f.0) f.1)
                (λ i. let f = k.fewer z y i in k.rest_back y z (subst T (sym (w.turned z y l m)) f.0) f.1);
            one = record { cut = k.cut; settled = settled; listed = λ z y l i. k.only z y l i; narrow = k.narrow };
            two = record { cut = k.cut_back; settled = settled_back; listed = λ y z l i. k.only_back y z l i; narrow = k.narrow_back };
          }

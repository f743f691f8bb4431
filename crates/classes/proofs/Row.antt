-- What the code computes for one row, word by word.
use mathlib.Core.Path.{◌≡◌, refl, sym, subst, ap, ap₂, ◌∙◌}
use mathlib.Core.Bool.{Bool, true, false, not, ◌&&◌, ◌||◌, beq, cond}
use mathlib.Core.List.{List}
use lib.Dec.{T}
use lib.ListN.{get_or}
use Prim.Native.Nat.{ℕ, ◌^◌, ◌<◌}
use Rattle.words.specs.Sets.{has, built, below, complement, intersection, union, subset}
use Rattle.words.proofs.Members.{has_none, has_union, has_intersection, intersection_lt, intersection_lt_r, below_lt, subset_in, subset_out}
use Rattle.words.proofs.Built.{built_same, cut_built, has_built, has_complement, complement_lt}
use Rattle.meaning.specs.Reference.Tests.{all_below}
use Rattle.meaning.proofs.Basic.Booleans.{test_eq, imp_in, imp_out}
use Rattle.meaning.proofs.Basic.Bounded.{all_in, all_out}
use Rattle.mark_rules.specs.declared.Mark.{Mark}
use Rattle.classes.specs.Matching.{kept}

pub has_picked : (b : Bool) (w y : ℕ) → has (cond b w 0) y ≡ (b && has w y)
has_picked true w y = refl
has_picked false w y = has_none y

-- a word cut to the states, by its members
pub cut_row : (n w : ℕ) (f : ℕ → Bool) → ((y : ℕ) → y < n → has w y ≡ f y) → intersection (below n) w ≡ built n f
cut_row n w f h = cut_built n w ∙ built_same n (has w) f h

-- a test of what is left of it
pub cut_test : (n w : ℕ) (f : ℕ → Bool) → built n (λ y. has (intersection (below n) w) y && f y) ≡ built n (λ y. has w y && f y)
cut_test n w f =
    built_same n (λ y. has (intersection (below n) w) y && f y) (λ y. has w y && f y) (λ y l.
    ap (λ b. b && f y) (ap (λ v. has v y) (cut_built n w) ∙ has_built n (has w) y l))

pub cut_narrow : (n w : ℕ) → intersection (below n) w < 2 ^ n
cut_narrow n w = intersection_lt n (below n) w (below_lt n)

pub both_row : (n a b : ℕ) → intersection (below n) (intersection a b) ≡ built n (λ y. has a y && has b y)
both_row n a b = cut_row n (intersection a b) (λ y. has a y && has b y) (λ y l. has_intersection a b y)

pub kept_row : (n own : ℕ) (m : Mark) (alike x : ℕ)
    → intersection (below n) (intersection own (union (cond (has m.pass x) m.pass 0) (union (cond (has m.fail x) m.fail 0) alike)))
    ≡ kept n own m alike x
unfolding kept
kept_row n own m alike x =
    cut_row n (intersection own (union p (union f alike)))
    (λ y. has own y && ((has m.pass x && has m.pass y) || ((has m.fail x && has m.fail y) || has alike y))) (λ y l.
    has_intersection own (union p (union f alike)) y
    ∙ ap (λ b. has own y && b)
    (has_union p (union f alike) y
    ∙ ap₂ (λ a b. a || b) (has_picked (has m.pass x) m.pass y)
    (has_union f alike y ∙ ap (λ a. a || has alike y) (has_picked (has m.fail x) m.fail y))))
  where
    p : ℕ
    p = cond (has m.pass x) m.pass 0

    f : ℕ
    f = cond (has m.fail x) m.fail 0

-- a state that is tested to be in a row need not be tested again
own_alone : (o p q m g : Bool) → (o && (p || (q || ((o && m) && g)))) ≡ (o && (p || (q || (g && m))))
own_alone true p q true true = refl
own_alone true p q true false = refl
own_alone true p q false true = refl
own_alone true p q false false = refl
own_alone false p q m g = refl

-- what is kept of a row r, where the alike are those of it that are in v and pass g
module _ (n r : ℕ) (m : Mark) (x : ℕ) (g : ℕ → Bool) where
  pub ruled_row : (v : ℕ) {own alike : ℕ} → own ≡ intersection (below n) r → alike ≡ built n (λ y. has (intersection own v) y && g y)
      → kept n own m alike x ≡ built n (λ y. has r y && ((has m.pass x && has m.pass y) || ((has m.fail x && has m.fail y) || (g y && has v y))))
  unfolding kept
  ruled_row v {own} {alike} e a =
      built_same n (λ y. has own y && ((has m.pass x && has m.pass y) || ((has m.fail x && has m.fail y) || has alike y)))
      (λ y. has r y && ((has m.pass x && has m.pass y) || ((has m.fail x && has m.fail y) || (g y && has v y)))) (λ y l.
      ap₂ (λ o z. o && ((has m.pass x && has m.pass y) || ((has m.fail x && has m.fail y) || z))) (own_at y l)
      (ap (λ w. has w y) a ∙ (has_built n (λ y. has (intersection own v) y && g y) y l
      ∙ ap (λ z. z && g y) (has_intersection own v y ∙ ap (λ o. o && has v y) (own_at y l))))
      ∙ own_alone (has r y) (has m.pass x && has m.pass y) (has m.fail x && has m.fail y) (has v y) (g y))
    where
      own_at : (y : ℕ) → y < n → has own y ≡ has r y
      own_at y l = ap (λ v. has v y) (e ∙ cut_built n r) ∙ has_built n (has r) y l

  -- v are those in f and in b
  pub ruled_both : (f b v : ℕ) {w : ℕ} → ((y : ℕ) → y < n → has v y ≡ (has f y && has b y))
      → w ≡ built n (λ y. has r y && ((has m.pass x && has m.pass y) || ((has m.fail x && has m.fail y) || (g y && has v y))))
      → w ≡ built n (λ y. has r y && ((has m.pass x && has m.pass y) || ((has m.fail x && has m.fail y) || (g y && (has f y && has b y)))))
  ruled_both f b v h d =
      d ∙ built_same n _ _ (λ y l. ap (λ z. has r y && ((has m.pass x && has m.pass y) || ((has m.fail x && has m.fail y) || (g y && z)))) (h y l))

-- the states with the level of x, where the states with level true are given
beq_true : (c : Bool) → c ≡ beq true c
beq_true true = refl
beq_true false = refl

beq_false : (c : Bool) → not c ≡ beq false c
beq_false true = refl
beq_false false = refl

same_level : (n : ℕ) (f : ℕ → Bool) (b : Bool) → cond b (built n f) (complement n (built n f)) ≡ built n (λ y. beq b (f y))
unfolding complement
same_level n f true = built_same n f (λ y. beq true (f y)) (λ y l. beq_true (f y))
same_level n f false =
    built_same n (λ y. not (has (built n f) y)) (λ y. beq false (f y)) (λ y l. ap not (has_built n f y l) ∙ beq_false (f y))

pub level_row : (outs : List ℕ) (n j x : ℕ) {high low v : ℕ} {b : Bool} → high ≡ built n (λ y. has (get_or outs y 0) j) → low ≡ complement n high
    → b ≡ has (get_or outs x 0) j → v ≡ cond b high low → v ≡ built n (λ y. beq (has (get_or outs x 0) j) (has (get_or outs y 0) j))
level_row outs n j x h l e d = d ∙ rw (l, h, e) (same_level n (λ y. has (get_or outs y 0) j) (has (get_or outs x 0) j))

-- ---- one assignment: the members of w that are not in fail lie in the set of g
pub covered_all : (n w fail : ℕ) (g : ℕ → Bool)
    → subset (intersection w (complement n fail)) (built n g) ≡ all_below n (λ u. not (has w u && not (has fail u)) || g u)
covered_all n w fail g = test_eq (subset live (built n g)) (all_below n test) out back
  where
    live : ℕ
    live = intersection w (complement n fail)

    test : ℕ → Bool
    test u = not (has w u && not (has fail u)) || g u

    has_live : (u : ℕ) → u < n → has live u ≡ (has w u && not (has fail u))
    has_live u l = has_intersection w (complement n fail) u ∙ ap (λ b. has w u && b) (has_complement n fail u l)

    out : T (subset live (built n g)) → T (all_below n test)
    out h = all_in n test (λ u l.
        imp_in (has w u && not (has fail u)) (g u) (λ i.
        subst T (has_built n g u l) (subset_out live (built n g) h u (subst T (sym (has_live u l)) i))))

    small : live < 2 ^ n
    small = intersection_lt_r n w (complement n fail) (complement_lt n fail)

    back : T (all_below n test) → T (subset live (built n g))
    back h = subset_in n live (built n g) small (λ u l i.
        subst T (sym (has_built n g u l))
        (imp_out (has w u && not (has fail u)) (g u) (all_out n test h u l) (subst T (has_live u l) i)))

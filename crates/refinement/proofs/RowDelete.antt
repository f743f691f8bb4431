-- What a look at a row does keeps the work: nothing fails, or the pairs that fail go and those of their predecessors are noted.
use mathlib.Core.Path.{◌≡◌, sym, subst, ap, ◌∙◌}
use mathlib.Core.Logic.{◌⊎◌, inl, inr, ◌≢◌}
use mathlib.Core.Bool.{Bool, not, ◌&&◌}
use mathlib.Core.List.{List}
use lib.Dec.{T, T_not}
use lib.ListN.{length, get_or, set, length-set}
use lib.Seq.{get_or-set_same, get_or-set_other}
use native.Mathlib.Decide.{ℕ_discrete}
use native.Mathlib.Omega.{arith}
use Prim.Native.Nat.{ℕ, ◌^◌, ◌≤◌, ◌<◌}
use Rattle.words.specs.Sets.{has, built, complement, insert, intersection, union, without}
use Rattle.words.proofs.Members.{has_intersection, has_lt, has_none, has_union, intersection_le, intersection_lt, union_lt}
use Rattle.words.proofs.Built.{built_lt, complement_lt, difference_iff, has_built, has_built_lt, less_in, less_out}
use Rattle.meaning.specs.Table.{Table, assignments, Successor}
use Rattle.meaning.specs.Tests.{any_below}
use Rattle.meaning.proofs.Basic.Booleans.{and_in, and_l, and_r, dec-T, or_l, or_r}
use Rattle.meaning.proofs.Basic.Bounded.{any_in, any_out}
use Rattle.classes.specs.Rows.{rel}
use Rattle.meaning.specs.File.Grammar.{most_states}
use Rattle.state_words.specs.Width.{state_bits}
use Rattle.classes.specs.Changed.{Changed}
use Rattle.mark_rules.specs.declared.Mark.{Mark}
use Rattle.refinement.specs.declared.side.Side.{Side}
use Rattle.refinement.specs.Again.{predecessor_rows, fine_b, before_any, Deleted, Cut, Working}
use Rattle.classes.proofs.Rows.{rel_rows_lem, row_at}
use Rattle.refinement.proofs.RowLook.{working_looked}

-- words with more in them at some places
module _ (more : ℕ) {places : ℕ} {old new : List ℕ} (h : Changed (union more) places old new) where
  added_old : (z w : ℕ) → T (rel old z w) → T (rel new z w)
  added_old z w i = on (dec-T (has places z))
    where
      on : T (has places z) ⊎ T (not (has places z)) → T (rel new z w)
      on (inl p) = rw (h.at z p, has_union more (get_or old z 0) w) (or_r (has more w) (rel old z w) i)
      on (inr n) = rw (h.other z (T_not (has places z) n)) i

  added_new : (z w : ℕ) → T (has places z) → T (has more w) → T (rel new z w)
  added_new z w p i = rw (h.at z p, has_union more (get_or old z 0) w) (or_l (has more w) (rel old z w) i)

  added_only : (z w : ℕ) → T (rel new z w) → T (has places z) ⊎ T (rel old z w)
  added_only z w i = on (dec-T (has places z))
    where
      on : T (has places z) ⊎ T (not (has places z)) → T (has places z) ⊎ T (rel old z w)
      on (inl p) = inl p
      on (inr n) = inr (subst (λ v. T (has v w)) (h.other z (T_not (has places z) n)) i)

-- words without x at some places
module _ (x : ℕ) {places : ℕ} {old new : List ℕ} (h : Changed (λ w. without state_bits w x) places old new) where
  pub removed_less : (z : ℕ) → get_or new z 0 ≤ get_or old z 0
  unfolding without
  removed_less z = on (dec-T (has places z))
    where
      on : T (has places z) ⊎ T (not (has places z)) → get_or new z 0 ≤ get_or old z 0
      on (inl p) = rw (h.at z p) (intersection_le (get_or old z 0) (complement state_bits (insert 0 x)))
      on (inr n) = rw (h.other z (T_not (has places z) n)) (omega arith)

  removed_cut : {states : ℕ} → Cut states old → Cut states new
  removed_cut c =
      record {
        long = h.long ∙ c.long;
        narrow = λ z. omega (arith, removed_less z, c.narrow z);
        past = λ z l. omega (arith, removed_less z, c.past z l);
      }

  removed_out : (z w : ℕ) → T (rel new z w) → T (rel old z w) × ((w ≡ x) × T (has places z) → ⊥)
  unfolding without
  removed_out z w i = on (dec-T (has places z))
    where
      on : T (has places z) ⊎ T (not (has places z)) → T (rel old z w) × ((w ≡ x) × T (has places z) → ⊥)
      on (inl p) = let o = less_out state_bits (get_or old z 0) x w (subst (λ v. T (has v w)) (h.at z p) i) in (o.1, λ g. o.0 (sym g.0))
      on (inr n) = (subst (λ v. T (has v w)) (h.other z (T_not (has places z) n)) i, λ g. T_not (has places z) n g.1)

  removed_in : (z w : ℕ) → w < state_bits → T (rel old z w) → ((w ≡ x) × T (has places z) → ⊥) → T (rel new z w)
  unfolding without
  removed_in z w l i g = on (dec-T (has places z))
    where
      on : T (has places z) ⊎ T (not (has places z)) → T (rel new z w)
      on (inl p) = rw (h.at z p) (less_in state_bits (get_or old z 0) x w l (λ e. g (sym e, p)) i)
      on (inr n) = rw (h.other z (T_not (has places z) n)) i

-- a row without what failed
module _ (states : ℕ) (r : List ℕ) (x failed : ℕ) (q : length r ≡ most_states) (f : x < most_states) where
  abbrev row : ℕ
  row = intersection (get_or r x 0) (complement states failed)

  pub there : get_or (set r x row) x 0 ≡ row
  there = get_or-set_same r x row 0 (omega arith)

  apart : (z : ℕ) → z ≢ x → get_or (set r x row) z 0 ≡ get_or r z 0
  apart z n = get_or-set_other r x z row 0 n

  pub cut_less : (z : ℕ) → get_or (set r x row) z 0 ≤ get_or r z 0
  cut_less z =
      elim (ℕ_discrete z x) [
        | yes e ↦ rw (e, there) (intersection_le (get_or r x 0) (complement states failed))
        | no n ↦ rw (apart z n) (omega arith)
      ]

  module _ (c : Cut states r) where
    row_cut : Cut states (set r x row)
    row_cut =
        record {
          long = length-set r x row ∙ c.long;
          narrow = λ z. omega (arith, cut_less z, c.narrow z);
          past = λ z l. omega (arith, cut_less z, c.past z l);
        }

    row_out : (z w : ℕ) → T (rel (set r x row) z w) → T (rel r z w) × ((z ≡ x) × T (has failed w) → ⊥)
    row_out z w i =
        elim (ℕ_discrete z x) [
          | yes e ↦
              let j : T (has row w) = subst (λ v. T (has v w)) (ap (λ z. get_or (set r x row) z 0) e ∙ there) i in
              let b = and_r (has (get_or r x 0) w) (has (complement states failed) w) (subst T (has_intersection (get_or r x 0) (complement states failed) w) j) in
              let l : w < states = has_lt states (complement states failed) w (complement_lt states failed) b in
              let o = (difference_iff states (get_or r x 0) failed w l).0 j in
              (subst (λ z. T (rel r z w)) (sym e) o.0, λ g. o.1 g.1)
          | no n ↦ (subst (λ v. T (has v w)) (apart z n) i, λ g. n g.0)
        ]

    row_in : (z w : ℕ) → T (rel r z w) → ((z ≡ x) × T (has failed w) → ⊥) → T (rel (set r x row) z w)
    row_in z w i g =
        elim (ℕ_discrete z x) [
          | yes e ↦
              let j : T (rel r x w) = subst (λ z. T (rel r z w)) e i in
              let l : w < states = has_lt states (get_or r x 0) w (c.narrow x) j in
              subst (λ z. T (rel (set r x row) z w)) (sym e)
              (subst (λ v. T (has v w)) (sym there) ((difference_iff states (get_or r x 0) failed w l).1 (j, λ h. g (e, h))))
          | no n ↦ subst (λ v. T (has v w)) (sym (apart z n)) i
        ]

-- a relation of which no pair of row x is noted any more, and the rows that are left
abbrev pub cleared_row : Side → ℕ → ℕ → Side
cleared_row A x left = record { rows = A.rows; again = set A.again x 0; todo = left }

module _ (t : Table) (mark : Mark) (m : t.states ≤ most_states) (pre : List ℕ) (ep : pre ≡ predecessor_rows t) where
  abbrev goes : ℕ → ℕ → Bool
  goes v z = any_below (assignments t) (λ a. t.next z a v)

  -- a state is a predecessor of its successors, and predecessors are t.states
  pub prior : (z v a : ℕ) → z < t.states → a < assignments t → Successor t z a v → T (rel pre v z)
  unfolding predecessor_rows
  prior z v a l b s =
      let i : T (goes v z) = any_in (assignments t) (λ a. t.next z a v) a b s.1 in
      subst T (sym (ap (λ p. rel p v z) ep ∙ rel_rows_lem t.states goes v z m s.0 l)) i

  before_narrow : (x : ℕ) → x < t.states → get_or pre x 0 < 2 ^ t.states
  unfolding predecessor_rows
  before_narrow x l = rw (ap (λ p. get_or p x 0) ep ∙ row_at t.states goes x m l) (built_lt t.states (goes x))

  module _ {E L : ℕ → ℕ → Bool} {A B : Side} (w : Working t mark E L A B) (x : ℕ) (l : x < t.states) (long : length A.again ≡ most_states) where
    abbrev fine : ℕ → Bool
    fine y = fine_b t mark (rel A.rows) x y

    abbrev test : ℕ → Bool
    test y = (rel A.rows x y && has (get_or A.again x 0) y) && not (fine y)

    cleared : List ℕ
    cleared = set A.again x 0

    -- what is noted elsewhere than in row x
    elsewhere : (z y : ℕ) → z ≢ x → T (rel A.again z y) → T (rel cleared z y)
    unfolding cleared
    elsewhere z y n i = rw (get_or-set_other A.again x z 0 0 n) i

    elsewhere_out : (z y : ℕ) → T (rel cleared z y) → (z ≢ x) × T (rel A.again z y)
    unfolding cleared
    elsewhere_out z y i =
        elim (ℕ_discrete z x) [
          | yes e ↦ absurd (subst T (has_none y) (subst (λ v. T (has v y)) (ap (λ z. get_or (set A.again x 0) z 0) e ∙ get_or-set_same A.again x 0 0 (omega (arith, long))) i))
          | no n ↦ (n, subst (λ v. T (has v y)) (get_or-set_other A.again x z 0 0 n) i)
        ]

    module _ (failed : ℕ) (ef : failed ≡ built t.states test) where
      abbrev others : ℕ
      others = before_any t.states pre failed

      failed_state : (y : ℕ) → T (has failed y) → y < t.states
      failed_state y i = has_built_lt t.states test y (subst (λ v. T (has v y)) ef i)

      failed_test : (y : ℕ) → y < t.states → has failed y ≡ test y
      failed_test y k = ap (λ v. has v y) ef ∙ has_built t.states test y k

      breaks : (y : ℕ) → T (has failed y) → T (fine y) → ⊥
      breaks y i = T_not (fine y) (and_r (rel A.rows x y && has (get_or A.again x 0) y) (not (fine y)) (subst T (failed_test y (failed_state y i)) i))

      looked : (y : ℕ) → y < t.states → T (rel A.rows x y) → T (rel A.again x y) → T (has failed y) ⊎ T (fine y)
      looked y k i g = on (dec-T (fine y))
        where
          on : T (fine y) ⊎ T (not (fine y)) → T (has failed y) ⊎ T (fine y)
          on (inl f) = inr f
          on (inr n) =
              inl (subst T (sym (failed_test y k))
              (and_in (rel A.rows x y && has (get_or A.again x 0) y) (not (fine y)) (and_in (rel A.rows x y) (has (get_or A.again x 0) y) i g) n))

      spread_test : ℕ → ℕ → Bool
      spread_test u v = has failed v && rel pre v u

      spread : (y u : ℕ) → u < t.states → T (has failed y) → T (rel pre y u) → T (has others u)
      unfolding spread_test
      spread y u k i b =
          subst T (sym (has_built t.states (λ u. any_below t.states (spread_test u)) u k))
          (any_in t.states (spread_test u) y (failed_state y i) (and_in (has failed y) (rel pre y u) i b))

      -- the rows to look at, but for x
      left : ℕ
      left = without state_bits A.todo x

      left_narrow : left < 2 ^ t.states
      unfolding left without
      left_narrow = intersection_lt t.states A.todo (complement state_bits (insert 0 x)) w.one.narrow

      left_in : (z : ℕ) → z < t.states → z ≢ x → T (has A.todo z) → T (has left z)
      unfolding left without
      left_in z k n i = less_in state_bits A.todo x z (omega arith) (λ e. n (sym e)) i

      -- nothing fails
      pub working_none : failed ≡ 0 → Working t mark E L (cleared_row A x (without state_bits A.todo x)) B
      unfolding cleared left spread_test
      working_none z =
          working_looked t mark (rel pre) x failed others prior l w
          (record {
            breaks = breaks;
            looked = looked;
            spread = spread;
            cut = w.one.cut;
            cut_back = w.two.cut;
            fewer = λ u v i. (i, λ g. no v g.1);
            rest = λ u v i g. i;
            fewer_back = λ v u i. (i, λ g. no v g.1);
            rest_back = λ v u i g. i;
            old = elsewhere;
            old_back = λ v u i. i;
            noted = λ u v b i.
                let k = has_built_lt t.states (λ u. any_below t.states (spread_test u)) v i in
                let h = any_out t.states (spread_test v) (subst T (has_built t.states (λ u. any_below t.states (spread_test u)) v k) i) in
                absurd (no h.0 (and_l (has failed h.0) (rel pre h.0 v) h.2));
            only = λ u v k i. let o = elsewhere_out u v i in left_in u k o.0 (w.one.listed u v k o.1);
            only_back = λ v u k i. w.two.listed v u k i;
            narrow = left_narrow;
            narrow_back = w.two.narrow;
          })
        where
          no : (y : ℕ) → T (has failed y) → ⊥
          no y i = subst T (has_none y) (subst (λ v. T (has v y)) z i)

      -- what fails goes
      pub working_deleted : {A' B' : Side} → Deleted t.states pre x failed (cleared_row A x (without state_bits A.todo x)) B A' B' → Working t mark E L A' B'
      unfolding cleared left
      working_deleted {A'} {B'} h =
          working_looked t mark (rel pre) x failed others prior l w
          (record {
            breaks = breaks;
            looked = looked;
            spread = spread;
            cut = rw h.rows (row_cut t.states A.rows x failed w.one.cut.long (omega arith) w.one.cut);
            cut_back = removed_cut x h.other w.two.cut;
            fewer = λ u v i. row_out t.states A.rows x failed w.one.cut.long (omega arith) w.one.cut u v (subst (λ r. T (rel r u v)) h.rows i);
            rest = λ u v i g. subst (λ r. T (rel r u v)) (sym h.rows) (row_in t.states A.rows x failed w.one.cut.long (omega arith) w.one.cut u v i g);
            fewer_back = λ v u i. removed_out x h.other v u i;
            rest_back = λ v u i g. removed_in x h.other v u (let k = has_lt t.states (get_or B.rows v 0) u (w.two.cut.narrow v) i in omega arith) i g;
            old = λ u v n i. added_old others h.again u v (elsewhere u v n i);
            old_back = λ v u i. added_old (get_or pre x 0) h.back v u i;
            noted = λ u v b i. (added_new others h.again u v b i, added_new (get_or pre x 0) h.back v u i b);
            only = λ u v k i. more (get_or pre x 0) left u h.more (here_now u v k (added_only others h.again u v i));
            only_back = λ v u k i. more others B.todo v h.more_back (there_now v u k (added_only (get_or pre x 0) h.back v u i));
            narrow = rw h.more (union_lt t.states (get_or pre x 0) left (before_narrow x l) left_narrow);
            narrow_back = rw h.more_back (union_lt t.states others B.todo (built_lt t.states _) w.two.narrow);
          })
        where
          -- a member of either part
          more : (p q u : ℕ) {v : ℕ} → v ≡ union p q → T (has p u) ⊎ T (has q u) → T (has v u)
          more p q u e (inl i) = rw (e, has_union p q u) (or_l (has p u) (has q u) i)
          more p q u e (inr i) = rw (e, has_union p q u) (or_r (has p u) (has q u) i)

          here_now : (u v : ℕ) → u < t.states → T (rel pre x u) ⊎ T (rel cleared u v) → T (rel pre x u) ⊎ T (has left u)
          here_now u v k (inl b) = inl b
          here_now u v k (inr i) = let o = elsewhere_out u v i in inr (left_in u k o.0 (w.one.listed u v k o.1))

          there_now : (v u : ℕ) → v < t.states → T (has others v) ⊎ T (rel B.again v u) → T (has others v) ⊎ T (has B.todo v)
          there_now v u k (inl b) = inl b
          there_now v u k (inr i) = inr (w.two.listed v u k i)

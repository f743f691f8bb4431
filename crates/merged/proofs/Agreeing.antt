-- Tables that agree in their states and assignments combine to the same steps, and nodes are true in the same combined states.
use mathlib.Core.Path.{◌≡◌, refl, ap, ap₂, ◌∙◌}
use mathlib.Core.Bool.{Bool, not, cond, ◌&&◌, ◌||◌}
use mathlib.Core.List.{List}
use lib.Dec.{eqb}
use lib.ListN.{length, get_or}
use native.Mathlib.Omega.{arith}
use Prim.Native.Nat.{ℕ, zero, suc, ◌+◌, ◌*◌, ◌/◌, ◌%◌, ◌^◌, ◌<◌}
use Rattle.words.specs.Sets.{has}
use Rattle.meaning.specs.Atoms.{Atom, on_signal}
use Rattle.meaning.specs.Tests.{any_below}
use Rattle.meaning.specs.Table.{Table, assignments, owns, drives, reading}
use Rattle.meaning.specs.Nodes.{Node, node_at}
use Rattle.meaning.specs.Combination.{high, count, index}
use Rattle.meaning.specs.Seen.{value}
use Rattle.meaning.proofs.Rules.{Keeps, node_keeps}
use Rattle.meaning.specs.Reference.Tests.{shrink, grow}
use Rattle.meaning.specs.Reference.Marks.{on_b, can_b, hold_b, reach_b}
use Rattle.meaning.specs.Reference.Truth.{part, product}
use Rattle.meaning.proofs.Basic.Bounded.{Agree, any_same, all_same}
use Rattle.meaning.proofs.File.Tables.{reading_lt, reading_same}
use Rattle.meaning.proofs.Meaning.Index.{part_lt}
use Rattle.labels.specs.Combined.{barred_at}
use Rattle.node_truth.specs.Nodes.{truth_rules, nodes_b, truth_of, combined_b}
use Rattle.merging.proofs.Tables.{Agreeing}

-- rounds of operators that agree on sets that agree
module _ (n : ℕ) (F G : (ℕ → Bool) → ℕ → Bool) (h : (Y Z : ℕ → Bool) → Agree n Y Z → Agree n (F Y) (G Z)) where
  shrink_same : (k : ℕ) → Agree n (shrink F k) (shrink G k)
  shrink_same zero x l = refl
  shrink_same (suc k) x l = h (shrink F k) (shrink G k) (shrink_same k) x l

  grow_same : (k : ℕ) → Agree n (grow F k) (grow G k)
  grow_same zero x l = refl
  grow_same (suc k) x l = h (grow F k) (grow G k) (grow_same k) x l

-- truth over the paths of two tables that agree
module _ (t u : Table) (e : Agreeing t u) where
  on_same : (Y Z : ℕ → Bool) → Agree u.states Y Z → (x : ℕ) → x < u.states → (a : ℕ) → a < assignments u → on_b t Y x a ≡ on_b u Z x a
  on_same Y Z h x l a b =
      ap (λ n. any_below n (λ y. t.next x a y && Y y)) e.states
      ∙ any_same u.states (λ y. t.next x a y && Y y) (λ y. u.next x a y && Z y) (λ y k. ap₂ (λ p q. p && q) (e.next x a y l b k) (h y k))

  can_same : (Y Z : ℕ → Bool) → Agree u.states Y Z → Agree u.states (can_b t Y) (can_b u Z)
  can_same Y Z h x l =
      ap (λ zs. any_below (2 ^ length zs) (on_b t Y x)) e.inputs
      ∙ any_same (assignments u) (on_b t Y x) (on_b u Z x) (λ a b. on_same Y Z h x l a b)

  module _ (p q : ℕ → Bool) (s : Agree u.states p q) where
    hold_same : (Y Z : ℕ → Bool) → Agree u.states Y Z → Agree u.states (hold_b t p Y) (hold_b u q Z)
    hold_same Y Z h x l = ap₂ (λ a b. a && b) (s x l) (can_same Y Z h x l)

    reach_same : (p₂ q₂ : ℕ → Bool) → Agree u.states p₂ q₂ → (Y Z : ℕ → Bool) → Agree u.states Y Z
        → Agree u.states (reach_b t p p₂ Y) (reach_b u q q₂ Z)
    reach_same p₂ q₂ s₂ Y Z h x l = ap₂ (λ a b. a || b) (s₂ x l) (hold_same Y Z h x l)

  module _
      {A : Type 0}
      (a b : A → ℕ → Bool)
      (atoms : (w : A) → Agree u.states (a w) (b w))
      (c d : ℕ → ℕ → Bool)
      (bars : (k : ℕ) → Agree u.states (c k) (d k))
    where
      -- the rules on the one and on the other keep to each other
      rules_same : (k : ℕ) → Keeps (λ p q. Agree u.states p q) (truth_rules t a c k) (truth_rules u b d k)
      rules_same k =
          record {
            top = λ x l. refl;
            atom = atoms;
            neg = λ p q h x l. ap not (h x l);
            or = λ p p₂ q q₂ h j x l. ap₂ (λ v w. v || w) (h x l) (j x l);
            ex = can_same;
            eg = λ p q h x l.
                let v : ℕ → Bool = λ y. p y && not (c k y) in
                let w : ℕ → Bool = λ y. q y && not (d k y) in
                let s : Agree u.states v w = λ y z. ap₂ (λ v w. v && not w) (h y z) (bars k y z) in
                ap (λ n. shrink (hold_b t v) n x) e.states ∙ shrink_same u.states (hold_b t v) (hold_b u w) (hold_same v w s) u.states x l;
            eu = λ p p₂ q q₂ h j x l.
                ap (λ n. grow (reach_b t p p₂) n x) e.states
                ∙ grow_same u.states (reach_b t p p₂) (reach_b u q q₂) (reach_same p q h p₂ q₂ j) u.states x l;
          }

      module _ (nodes : List (Node A)) where
        nodes_same : (n k : ℕ) → Agree u.states (nodes_b t a c nodes n k) (nodes_b u b d nodes n k)
        nodes_same zero k = λ x l. refl
        nodes_same (suc n) k =
            node_keeps (λ p q. Agree u.states p q) (truth_rules t a c k) (truth_rules u b d k) (rules_same k) (nodes_b t a c nodes n) (nodes_b u b d nodes n)
            (node_at nodes k) (λ i o. nodes_same n i)

        pub truth_same : (k : ℕ) → Agree u.states (truth_of t a c nodes k) (truth_of u b d nodes k)
        truth_same k = nodes_same (suc k) k

-- parts, count and index by sizes that agree
pub part_same : (m r : ℕ → ℕ) (i : ℕ) → ((j : ℕ) → j < suc i → m j ≡ r j) → (x : ℕ) → part m i x ≡ part r i x
part_same m r zero h x = ap (λ s. x % s) (h 0 (omega arith))
part_same m r (suc i) h x =
    ap (λ s. part (λ j. m (suc j)) i (x / s)) (h 0 (omega arith))
    ∙ part_same (λ j. m (suc j)) (λ j. r (suc j)) i (λ j l. h (suc j) (omega arith)) (x / r 0)

pub count_same : (n : ℕ) (m r : ℕ → ℕ) → ((i : ℕ) → i < n → m i ≡ r i) → count n m ≡ count n r
count_same zero m r h = refl
count_same (suc n) m r h =
    ap₂ (λ a b. a * b) (h 0 (omega arith)) (count_same n (λ i. m (suc i)) (λ i. r (suc i)) (λ i l. h (suc i) (omega arith)))

pub index_sizes : (n : ℕ) (m r s : ℕ → ℕ) → ((i : ℕ) → i < n → m i ≡ r i) → index n m s ≡ index n r s
index_sizes zero m r s h = refl
index_sizes (suc n) m r s h =
    ap₂ (λ a b. s 0 + a * b) (h 0 (omega arith))
    (index_sizes n (λ i. m (suc i)) (λ i. r (suc i)) (λ i. s (suc i)) (λ i l. h (suc i) (omega arith)))

module _ (n : ℕ) (S U : ℕ → Table) (e : (i : ℕ) → i < n → Agreeing (S i) (U i)) (some : (i : ℕ) → i < n → 0 < (U i).states) where
  abbrev at : ℕ → ℕ → ℕ
  at i x = part (λ i. (S i).states) i x

  abbrev at' : ℕ → ℕ → ℕ
  at' i x = part (λ i. (U i).states) i x

  at_same : (i : ℕ) → i < n → (x : ℕ) → at i x ≡ at' i x
  at_same i l x = part_same (λ i. (S i).states) (λ i. (U i).states) i (λ j h. (e j (omega arith)).states) x

  at_lt : (i : ℕ) → i < n → (x : ℕ) → at' i x < (U i).states
  at_lt i l x = part_lt (λ i. (U i).states) i (some i l) x

  owns_same : (w i : ℕ) → i < n → owns (S i) w ≡ owns (U i) w
  owns_same w i l = ap (λ zs. any_below (length zs) (λ j. eqb (get_or zs j 0) w)) (e i l).outputs

  drives_same : (x w i : ℕ) → i < n → drives (S i) (at i x) w ≡ drives (U i) (at' i x) w
  drives_same x w i l =
      let o : (S i).out (at i x) ≡ (U i).out (at' i x) = ap (S i).out (at_same i l x) ∙ (e i l).out (at' i x) (at_lt i l x) in
      ap₂ (λ zs v. any_below (length zs) (λ j. eqb (get_or zs j 0) w && has v j)) (e i l).outputs o

  -- a signal is high in the same combined states
  pub high_same : (w x : ℕ) → high n S w (λ i. at i x) ≡ high n U w (λ i. at' i x)
  high_same w x = any_same n (λ i. drives (S i) (at i x) w) (λ i. drives (U i) (at' i x) w) (drives_same x w)

  value_same : (a : Atom) (x : ℕ) → x < count n (λ i. (U i).states) → value n S a (λ i. at i x) ≡ value n U a (λ i. at' i x)
  value_same (on_signal w) x l = high_same w x

  -- and a combined state is barred at the same nodes
  bars_same : (barred : ℕ → ℕ → ℕ) (k x : ℕ) → barred_at n (λ i. (S i).states) barred k x ≡ barred_at n (λ i. (U i).states) barred k x
  bars_same barred k x =
      any_same n (λ i. has (barred i k) (at i x)) (λ i. has (barred i k) (at' i x)) (λ i l. ap (has (barred i k)) (at_same i l x))

  -- the steps are the same
  module _ (W : ℕ) where
    -- the level at which a signal is read
    abbrev level : ℕ → ℕ → ℕ → Bool
    level x a w = cond (any_below n (λ i. owns (S i) w)) (any_below n (λ i. drives (S i) (at i x) w)) (has a w)

    abbrev level' : ℕ → ℕ → ℕ → Bool
    level' x a w = cond (any_below n (λ i. owns (U i) w)) (any_below n (λ i. drives (U i) (at' i x) w)) (has a w)

    level_same : (x a w : ℕ) → level x a w ≡ level' x a w
    level_same x a w =
        ap₂ (λ o v. cond o v (has a w)) (any_same n (λ i. owns (S i) w) (λ i. owns (U i) w) (owns_same w)) (high_same w x)

    step_same : (x a y i : ℕ) → i < n
        → (S i).next (at i x) (reading (S i).inputs (level x a)) (at i y) ≡ (U i).next (at' i x) (reading (U i).inputs (level' x a)) (at' i y)
    step_same x a y i l =
        let r : reading (S i).inputs (level x a) ≡ reading (U i).inputs (level' x a) =
        ap (λ zs. reading zs (level x a)) (e i l).inputs ∙ reading_same (U i).inputs (level x a) (level' x a) (λ w z. level_same x a w)
        in
        ap (λ z. (S i).next z (reading (S i).inputs (level x a)) (at i y)) (at_same i l x)
        ∙ ap₂ (λ v z. (S i).next (at' i x) v z) r (at_same i l y)
        ∙ (e i l).next (at' i x) (reading (U i).inputs (level' x a)) (at' i y) (at_lt i l x) (reading_lt (U i).inputs (level' x a)) (at_lt i l y)

    pub product_agreeing : Agreeing (product n S W) (product n U W)
    product_agreeing =
        record {
          states = count_same n (λ i. (S i).states) (λ i. (U i).states) (λ i l. (e i l).states);
          inputs = refl;
          outputs = refl;
          out = λ x l. refl;
          next =
              λ x a y l b k.
              all_same n (λ i. (S i).next (at i x) (reading (S i).inputs (level x a)) (at i y))
              (λ i. (U i).next (at' i x) (reading (U i).inputs (level' x a)) (at' i y)) (step_same x a y);
        }

    -- nodes are true in the same combined states
    pub combined_same : (barred : ℕ → ℕ → ℕ) (nodes : List (Node Atom)) (k x : ℕ) → x < count n (λ i. (U i).states)
        → combined_b n S W barred nodes k x ≡ combined_b n U W barred nodes k x
    combined_same barred nodes k x l =
        truth_same (product n S W) (product n U W) product_agreeing (λ a x. value n S a (λ i. at i x)) (λ a x. value n U a (λ i. at' i x))
        value_same (barred_at n (λ i. (S i).states) barred) (barred_at n (λ i. (U i).states) barred)
        (λ k x l. bars_same barred k x) nodes k x l

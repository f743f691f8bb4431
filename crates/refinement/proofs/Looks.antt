-- A look at a row: what it keeps, and that less is left to do.
use mathlib.Core.Path.{◌≡◌, refl, sym, subst, ap, ◌∙◌}
use mathlib.Core.Logic.{◌⊎◌, inl, inr, ◌≢◌}
use mathlib.Core.Bool.{Bool, not, ◌&&◌}
use mathlib.Core.List.{List}
use lib.Dec.{T}
use lib.ListN.{length, get_or, length-set}
use native.Mathlib.Nat.{mul-suc, mul-le-mul_left}
use native.Mathlib.Omega.{arith}
use Prim.Native.Nat.{ℕ, suc, ◌+◌, ◌*◌, ◌^◌, ◌≤◌, ◌<◌}
use Rattle.words.specs.Sets.{has, built, complement, intersection, lowest, without}
use Rattle.words.proofs.Members.{has_intersection, intersection_lt, some_member}
use Rattle.words.proofs.Passing.{lowest_some}
use Rattle.words.proofs.Built.{built_lt, difference_iff, has_built, less_falls}
use Rattle.meaning.proofs.Basic.Booleans.{and_l}
use Rattle.classes.specs.Rows.{rel}
use Rattle.meaning.specs.File.Grammar.{most_states}
use Rattle.state_words.specs.Width.{state_bits}
use Rattle.meaning.specs.Table.{Table}
use Rattle.mark_rules.specs.declared.Mark.{Mark}
use Rattle.refinement.specs.declared.side.Side.{Side}
use Rattle.refinement.specs.Again.{predecessor_rows, fine_b, total, Deleted, Looked, Settling, Settled}
use Rattle.refinement.proofs.Sum.{sum_le, sum_falls}
use Rattle.refinement.proofs.RowDelete.{cut_less, there, removed_less, cleared_row, working_none, working_deleted}

-- the lowest of the later rows
pub later_row : (todo mask : ℕ) {w : ℕ} → todo < 2 ^ state_bits → w ≡ intersection todo mask → w ≢ 0 → T (has todo (lowest state_bits w))
later_row todo mask {w} l e n =
    let z = lowest state_bits w in
    and_l (has todo z) (has mask z)
    (subst T (ap (λ w. has w z) e ∙ has_intersection todo mask z) (lowest_some state_bits w (rw e (intersection_lt state_bits todo mask l)) n).member)

module _ {t : Table} {mark : Mark} (m : t.states ≤ most_states) {pre : List ℕ} (ep : pre ≡ predecessor_rows t)
    {A B : Side} (la : length A.again ≡ most_states) {x : ℕ} (l : x < t.states) (i : T (has A.todo x)) {failed : ℕ}
    (ef : failed ≡ built t.states (λ y. (rel A.rows x y && has (get_or A.again x 0) y) && not (fine_b t mark (rel A.rows) x y))) where
  pub looked_none : failed ≡ 0 → {left : ℕ} → left ≡ without state_bits A.todo x → Looked t mark A B (cleared_row A x left) B
  unfolding without total
  looked_none z e =
      rw e
      (record {
        keeps = λ E L w. working_none t mark m pre ep w x l la failed ef z;
        less = inr (refl, refl, less_falls state_bits A.todo x i);
      })

  pub looked_deleted : failed ≢ 0 → length A.rows ≡ most_states → {left : ℕ} → left ≡ without state_bits A.todo x → {A' B' : Side}
      → Deleted t.states pre x failed (cleared_row A x left) B A' B' → Looked t mark A B A' B'
  unfolding total
  looked_deleted n lr el {A'} {B'} h =
      record {
        keeps = λ E L w. working_deleted t mark m pre ep w x l la failed ef (rw el at h);
        less = inl (let p = sum_falls A'.rows A.rows (long ∙ sym lr) smaller differ in let q = sum_le B'.rows B.rows h.other.long (removed_less x h.other) in omega arith);
      }
    where
      row : ℕ
      row = intersection (get_or A.rows x 0) (complement t.states failed)

      long : length A'.rows ≡ most_states
      long = ap length h.rows ∙ (length-set A.rows x _ ∙ lr)

      smaller : (z : ℕ) → get_or A'.rows z 0 ≤ get_or A.rows z 0
      smaller z = rw h.rows (cut_less t.states A.rows x failed lr (omega arith) z)

      test : ℕ → Bool
      test y = (rel A.rows x y && has (get_or A.again x 0) y) && not (fine_b t mark (rel A.rows) x y)

      -- a pair that fails was there
      member : (y : ℕ) × (y < t.states) × T (has failed y) × T (rel A.rows x y)
      member =
          let (y, k, h) = some_member t.states failed (rw ef (built_lt t.states test)) n in
          let j = subst T (ap (λ v. has v y) ef ∙ has_built t.states test y k) h in
          (y, k, h, and_l (rel A.rows x y) (has (get_or A.again x 0) y) (and_l (rel A.rows x y && has (get_or A.again x 0) y) (not (fine_b t mark (rel A.rows) x y)) j))

      differ : A'.rows ≡ A.rows → ⊥
      differ p =
          let (y, k, j, g) = member in
          let b : T (rel A'.rows x y) = subst (λ r. T (rel r x y)) (sym p) g in
          let c = subst (λ v. T (has v y)) (ap (λ r. get_or r x 0) h.rows ∙ there t.states A.rows x failed lr (omega arith)) b in
          ((difference_iff t.states (get_or A.rows x 0) failed y k).0 c).1 j

-- ---- looks one after the other
module _ {t : Table} {mark : Mark} {A B : Side} where
  pub settling_start : Settling t mark A B A B
  settling_start = record { keeps = λ E L w. w; less = inr (refl, refl) }

  pub settling_more : {A' B' A'' B'' : Side} → Settling t mark A B A' B' → Looked t mark A' B' A'' B'' → Settling t mark A B A'' B''
  settling_more {A'} {B'} {A''} {B''} h k = record { keeps = λ E L w. k.keeps E L (h.keeps E L w); less = on h.less k.less }
    where
      on : (total A' B' < total A B) ⊎ ((total A' B' ≡ total A B) × (B'.todo ≡ B.todo))
          → (total A'' B'' < total A' B') ⊎ ((total A'' B'' ≡ total A' B') × (B''.todo ≡ B'.todo) × (A''.todo < A'.todo))
          → (total A'' B'' < total A B) ⊎ ((total A'' B'' ≡ total A B) × (B''.todo ≡ B.todo))
      on (inl p) (inl q) = inl (omega arith)
      on (inl p) (inr q) = inl (omega (arith, q.0))
      on (inr p) (inl q) = inl (omega (arith, p.0))
      on (inr p) (inr q) = inr (q.0 ∙ p.0, q.1 ∙ p.1)

-- the measure: what is left, then the rows to look at
weighed : (k a b u v : ℕ) → ((b < a) × (u < k)) ⊎ ((b ≡ a) × (u < v)) → k * b + u < k * a + v
weighed k a b u v (inl h) = let m : k * suc b ≤ k * a = mul-le-mul_left k h.0 in let l = h.1 in omega (arith, mul-suc k b)
weighed k a b u v (inr h) = rw h.0 (let l = h.1 in omega arith)

pub looked_falls : {t : Table} {mark : Mark} {A B A' B' : Side} → Looked t mark A B A' B' → A'.todo < 2 ^ t.states
    → 2 ^ t.states * total A' B' + A'.todo < 2 ^ t.states * total A B + A.todo
looked_falls {t} {A = A} {B = B} {A' = A'} {B' = B'} h l = on h.less
  where
    on : (total A' B' < total A B) ⊎ ((total A' B' ≡ total A B) × (B'.todo ≡ B.todo) × (A'.todo < A.todo))
        → 2 ^ t.states * total A' B' + A'.todo < 2 ^ t.states * total A B + A.todo
    on (inl p) = weighed (2 ^ t.states) _ _ _ _ (inl (p, l))
    on (inr p) = weighed (2 ^ t.states) _ _ _ _ (inr (p.0, p.2))

-- both relations settled in turn: less is left, or no row
pub turn_falls : {t : Table} {mark : Mark} {A B A' B' A'' B'' : Side} → Settled t mark A B A' B' → Settled t mark B' A' B'' A'' → B'.todo ≢ 0
    → A''.todo < 2 ^ t.states
    → 2 ^ t.states * total A'' B'' + (A''.todo + B''.todo) < 2 ^ t.states * total A B + (A.todo + B.todo)
unfolding total
turn_falls {t} {A = A} {B = B} {A' = A'} {B' = B'} {A'' = A''} {B'' = B''} h k n l = on h.looks.less k.looks.less
  where
    on : (total A' B' < total A B) ⊎ ((total A' B' ≡ total A B) × (B'.todo ≡ B.todo))
        → (total B'' A'' < total B' A') ⊎ ((total B'' A'' ≡ total B' A') × (A''.todo ≡ A'.todo))
        → 2 ^ t.states * total A'' B'' + (A''.todo + B''.todo) < 2 ^ t.states * total A B + (A.todo + B.todo)
    on (inl p) (inl q) = weighed (2 ^ t.states) _ _ _ _ (inl (omega arith, omega (arith, k.none)))
    on (inl p) (inr q) = let a = q.0 in weighed (2 ^ t.states) _ _ _ _ (inl (omega arith, omega (arith, k.none)))
    on (inr p) (inl q) = let a = p.0 in weighed (2 ^ t.states) _ _ _ _ (inl (omega arith, omega (arith, k.none)))
    on (inr p) (inr q) =
        let a = p.0 in
        let b = p.1 in
        let c = q.0 in
        let f = q.1 in
        weighed (2 ^ t.states) _ _ _ _ (inr (omega arith, omega (arith, k.none, h.none)))

-- The tests of specs/Reference/WellFormed are sound: an instrument that passes them is as the reader promises.
use mathlib.Core.Path.{◌≡◌, subst, sym}
use mathlib.Core.Logic.{◌≢◌, inl, inr}
use mathlib.Core.Bool.{◌&&◌, not, true}
use mathlib.Core.List.{List}
use lib.Dec.{T, T_not, eqb, eqb→eq, ltb, ltb→lt}
use lib.ListN.{get_or-eq_default, get_or, length}
use native.Mathlib.Decide.{dec_lt}
use native.Mathlib.Omega.{arith}
use Prim.Native.Nat.{◌<◌, ℕ}
use Rattle.meaning.specs.Atoms.{Atom, on_signal}
use Rattle.meaning.specs.Instrument.{Accepted, Instrument, IsStart, WellFormed, components, table}
use Rattle.meaning.specs.Nodes.{Node, atom, node_at}
use Rattle.meaning.specs.Reference.Marks.{on_b}
use Rattle.meaning.specs.Reference.Tests.{all_below, all_of}
use Rattle.meaning.specs.Reference.WellFormed.{accepted_b, apart_b, component_b, is_start_b, named_b, total_b, well_formed_b}
use Rattle.meaning.specs.Table.{Table, Total, assignments, owns}
use Rattle.meaning.specs.Tests.{listed}
use Rattle.meaning.proofs.Basic.Booleans.{and_l, conj, or_out}
use Rattle.meaning.proofs.Basic.Bounded.{all_out, any_out}
use Rattle.meaning.proofs.Basic.Lists.{all_listed, all_sound}
use Rattle.meaning.proofs.File.Nodes.{earlier_sound}

pub total_sound : (t : Table) → T (total_b t) → Total t
total_sound t h x a k m =
    let b = all_out t.states (λ x. all_below (assignments t) (λ a. on_b t (λ y. true) x a)) h x k in
    let c = all_out (assignments t) (λ a. on_b t (λ y. true) x a) b a m in
    let (y, l, e) = any_out t.states (λ y. t.next x a y && true) c in
    (y, (l, and_l (t.next x a y) true e))

module _ (n : ℕ) (S : ℕ → Table) (W : ℕ) where
  pub well_formed_sound : T (well_formed_b n S W) → WellFormed n S W
  well_formed_sound h =
      record {
        some = λ i l. let c = one i l in ltb→lt 0 (S i).states (search conj);
        total = λ i l. let c = one i l in total_sound (S i) (search conj);
        apart = λ i j l k z w o q. let c = one i l in apart i j (all_out n (apart_b n S W i) (search conj) j k) z w o q;
        own =
            λ i l w o q.
            let c = one i l in
            T_not (listed (S i).inputs w) (all_listed (λ w. not (listed (S i).inputs w)) (S i).outputs (search conj) w o) q;
        small = λ i l w o. let c = one i l in ltb→lt w W (all_listed (λ w. ltb w W) (S i).inputs (search conj) w o);
      }
    where
      one : (i : ℕ) → i < n → T (component_b n S W i)
      one i l = all_out n (component_b n S W) h i l

      apart : (i j : ℕ) → T (apart_b n S W i j) → j ≢ i → (w : ℕ) → T (owns (S i) w) → T (owns (S j) w) → ⊥
      apart i j h z w o q =
          elim (or_out (eqb j i) (all_of (λ w. not (owns (S j) w)) (S i).outputs) h) [
            | inl e ↦ z (eqb→eq j i e)
            | inr d ↦ T_not (owns (S j) w) (all_listed (λ w. not (owns (S j) w)) (S i).outputs d w o) q
          ]

module _ (I : Instrument) where
  pub start_sound : (start : List ℕ) → T (is_start_b I start) → IsStart I start
  start_sound start h = (
    eqb→eq (length start) (components I) (search conj),
    λ i l. ltb→lt (get_or start i 0) (table I i).states
        (all_out (components I) (λ i. ltb (get_or start i 0) (table I i).states) (search conj) i l),
  )

  named_sound : (m : Node Atom) → T (named_b I m) → (w : ℕ) → m ≡ atom (on_signal w) → (i : ℕ) × (i < components I) × T (owns (table I i) w)
  named_sound m h w e = any_out (components I) (λ i. owns (table I i) w) (subst (λ m. T (named_b I m)) e h)

  pub accepted_sound : T (accepted_b I) → Accepted I
  accepted_sound h =
      record {
        well_formed = well_formed_sound (components I) (table I) I.signals (search conj);
        earlier = earlier_sound I.nodes (search conj);
        rooted = ltb→lt 0 (length I.nodes) (search conj);
        driven =
            λ k w e. named_sound (node_at I.nodes k) (named k (all_out (length I.nodes) (λ k. named_b I (node_at I.nodes k)) (search conj)))
            w e;
        starts = all_sound (IsStart I) (is_start_b I) start_sound I.starts (search conj);
      }
    where
      -- past the last node there is true, which names nothing
      named : (k : ℕ) → ((k : ℕ) → k < length I.nodes → T (named_b I (node_at I.nodes k))) → T (named_b I (node_at I.nodes k))
      named k f =
          elim (dec_lt k (length I.nodes)) [
            | yes l ↦ f k l
            | no l ↦ subst (λ m. T (named_b I m)) (sym (get_or-eq_default I.nodes Node.top {n = k} (omega arith))) tt
          ]

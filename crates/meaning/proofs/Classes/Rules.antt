-- The rule of EX, EG and EU for a pair of states: it is monotone, symmetric, reflexive and transitive in the relation, and tested.
use mathlib.Core.Path.{◌∙◌, ◌≡◌, refl, subst, sym}
use mathlib.Core.Logic.{◌⊎◌, inl, inr}
use mathlib.Core.Bool.{Bool, ◌&&◌, ◌||◌, not}
use lib.Dec.{T, eqb, eqb_refl, eqb→eq}
use Prim.Native.Nat.{◌<◌, ℕ}
use Rattle.meaning.specs.Reference.Marks.{on_b}
use Rattle.meaning.specs.Reference.Relation.{alike_b, matched_b, meet_b, rule_b}
use Rattle.meaning.specs.Reference.Tests.{all_below}
use Rattle.meaning.specs.Relation.{Alike, InsidePairs, Matched, Rule, alike, failed, passed}
use Rattle.meaning.specs.Table.{Table, assignments, Successor}
use Rattle.meaning.proofs.Basic.Booleans.{and_in, conj, imp_in, imp_out, or_l, or_out, or_r}
use Rattle.meaning.proofs.Basic.Bounded.{all_in, all_out}
use Rattle.meaning.proofs.Basic.Decides.{Decides, DecidesPairs, not_decides}
use Rattle.meaning.proofs.Meaning.TableSteps.{into, onto}

module _ (t : Table) (compared : ℕ → ℕ) where
  -- joined by a state between
  abbrev pub Through : (ℕ → ℕ → Type 0) → ℕ → ℕ → Type 0
  Through X u w = (v : ℕ) × (v < t.states) × X u v × X v w

  -- whether x and y are matched depends on the relation only at pairs of a successor of x and one of y
  pub matched_at : {F : ℕ → Type 0} {X Y : ℕ → ℕ → Type 0} (x y : ℕ)
      → ((a u v : ℕ) → a < assignments t → Successor t x a u → Successor t y a v → X u v → Y u v) → Matched t compared F X x y
      → Matched t compared F Y x y
  matched_at x y f h a l u s n = let c = h a l u s n in (c.0, c.1, f a u c.0 l s c.1 c.2)

  matched_map : {F : ℕ → Type 0} {X Y : ℕ → ℕ → Type 0} → InsidePairs t X Y → (x y : ℕ) → Matched t compared F X x y → Matched t compared F Y x y
  matched_map f x y = matched_at x y (λ a u v l s r. f u v s.0 r.0)

  pub alike_map : {F : ℕ → Type 0} {X Y : ℕ → ℕ → Type 0} → InsidePairs t X Y → (x y : ℕ) → Alike t compared F X x y → Alike t compared F Y x y
  alike_map f x y h = record { same = h.same; forth = matched_map f x y h.forth; back = matched_map (λ u v l k r. f v u k l r) y x h.back }

  pub rule_map : {P Q F : ℕ → Type 0} {X Y : ℕ → ℕ → Type 0} → InsidePairs t X Y → (x y : ℕ) → Rule t compared P Q F X x y → Rule t compared P Q F Y x y
  rule_map f x y (passed b c) = passed b c
  rule_map f x y (failed b c) = failed b c
  rule_map f x y (alike c) = alike (alike_map f x y c)

  pub rule_flip : {P Q F : ℕ → Type 0} {X : ℕ → ℕ → Type 0} (x y : ℕ) → Rule t compared P Q F X x y → Rule t compared P Q F (λ u v. X v u) y x
  rule_flip x y (passed b c) = passed c b
  rule_flip x y (failed b c) = failed c b
  rule_flip x y (alike c) = alike (record { same = sym c.same; forth = c.back; back = c.forth })

  pub rule_refl : {P Q F : ℕ → Type 0} (x : ℕ) → Rule t compared P Q F (λ u v. u ≡ v) x x
  rule_refl x = alike (record { same = refl; forth = λ a l u s n. (u, s, refl); back = λ a l u s n. (u, s, refl) })

  pub rule_trans : {P Q F : ℕ → Type 0} {X Y : ℕ → ℕ → Type 0} (x y z : ℕ) → InsidePairs t X (λ u v. F v → F u) → InsidePairs t Y (λ u v. F u → F v)
      → (P y → P x) → (P y → P z) → (Q y → Q x) → (Q y → Q z) → Rule t compared P Q F X x y → Rule t compared P Q F Y y z
      → Rule t compared P Q F (λ u w. (v : ℕ) × (v < t.states) × X u v × Y v w) x z
  rule_trans x y z fx fy px pz qx qz (passed b c) d = passed (px c) (pz c)
  rule_trans x y z fx fy px pz qx qz (failed b c) d = failed (qx c) (qz c)
  rule_trans x y z fx fy px pz qx qz (alike c) (passed d e) = passed (px d) (pz d)
  rule_trans x y z fx fy px pz qx qz (alike c) (failed d e) = failed (qx d) (qz d)
  rule_trans x y z fx fy px pz qx qz (alike c) (alike d) =
      alike
      (record {
        same = c.same ∙ d.same;
        forth =
            λ a l u s n.
            let v = c.forth a l u s n in
            let w = d.forth a l v.0 v.1 (λ f. n (fx u v.0 s.0 v.1.0 v.2 f)) in
            (w.0, w.1, (v.0, v.1.0, v.2, w.2));
        back =
            λ a l w s n.
            let v = d.back a l w s n in
            let u = c.back a l v.0 v.1 (λ f. n (fy v.0 w v.1.0 s.0 v.2 f)) in
            (u.0, u.1, (v.0, v.1.0, u.2, v.2));
      })

  module _ {F : ℕ → Type 0} {f : ℕ → Bool} (d : Decides t.states f F) (Z : ℕ → ℕ → Bool) where
    pub match_out : (x y : ℕ) → T (matched_b t compared f Z x y) → Matched t compared F (λ u v. T (Z u v)) x y
    match_out x y h a l u s n =
        let r = all_out t.states (meet_b t compared f Z x y a) (all_out (assignments t) (λ a. all_below t.states (meet_b t compared f Z x y a)) h a l) u s.0 in
        into t (Z u) y a (imp_out (t.next x a u && not (f u)) (on_b t (Z u) y a) r
        (and_in (t.next x a u) (not (f u)) s.1 ((not_decides d).whole u s.0 n)))

    pub match_in : (x y : ℕ) → Matched t compared F (λ u v. T (Z u v)) x y → T (matched_b t compared f Z x y)
    match_in x y h =
        all_in (assignments t) (λ a. all_below t.states (meet_b t compared f Z x y a)) (λ a l.
        all_in t.states (meet_b t compared f Z x y a) (λ u k.
        imp_in (t.next x a u && not (f u)) (on_b t (Z u) y a) (λ z.
        let c = h a l u (k, (search conj)) ((not_decides d).sound u k (search conj)) in
        onto t (Z u) y a c.0 c.1 c.2)))

  module _
      {P Q F : ℕ → Type 0}
      {p q f : ℕ → Bool}
      (dp : Decides t.states p P)
      (dq : Decides t.states q Q)
      (df : Decides t.states f F)
    where
      pub rule_out : (Z : ℕ → ℕ → Bool) (x y : ℕ) → x < t.states → y < t.states → T (rule_b t compared p q f Z x y)
          → Rule t compared P Q F (λ u v. T (Z u v)) x y
      rule_out Z x y l k h = first (or_out (p x && p y) ((q x && q y) || alike_b t compared f Z x y) h)
        where
          third : T (alike_b t compared f Z x y) → Alike t compared F (λ u v. T (Z u v)) x y
          third h =
              record {
                same = eqb→eq (compared x) (compared y) (search conj);
                forth = match_out df Z x y (search conj);
                back = match_out df (λ u v. Z v u) y x (search conj);
              }

          second : T (q x && q y) ⊎ T (alike_b t compared f Z x y) → Rule t compared P Q F (λ u v. T (Z u v)) x y
          second (inl h) = failed (dq.sound x l (search conj)) (dq.sound y k (search conj))
          second (inr h) = alike (third h)

          first : T (p x && p y) ⊎ T ((q x && q y) || alike_b t compared f Z x y) → Rule t compared P Q F (λ u v. T (Z u v)) x y
          first (inl h) = passed (dp.sound x l (search conj)) (dp.sound y k (search conj))
          first (inr h) = second (or_out (q x && q y) (alike_b t compared f Z x y) h)

      pub rule_in : (Z : ℕ → ℕ → Bool) (x y : ℕ) → x < t.states → y < t.states → Rule t compared P Q F (λ u v. T (Z u v)) x y
          → T (rule_b t compared p q f Z x y)
      rule_in Z x y l k (passed b c) = or_l (p x && p y) ((q x && q y) || alike_b t compared f Z x y)
          (and_in (p x) (p y) (dp.whole x l b) (dp.whole y k c))
      rule_in Z x y l k (failed b c) =
          or_r (p x && p y) ((q x && q y) || alike_b t compared f Z x y)
          (or_l (q x && q y) (alike_b t compared f Z x y) (and_in (q x) (q y) (dq.whole x l b) (dq.whole y k c)))
      rule_in Z x y l k (alike c) =
          let o : T (eqb (compared x) (compared y)) = subst (λ o. T (eqb (compared x) o)) c.same (eqb_refl (compared x)) in
          let a : T (matched_b t compared f Z x y) = match_in df Z x y c.forth in
          let b : T (matched_b t compared f (λ u v. Z v u) y x) = match_in df (λ u v. Z v u) y x c.back in
          or_r (p x && p y) ((q x && q y) || alike_b t compared f Z x y) (or_r (q x && q y) (alike_b t compared f Z x y) (search conj))

      -- EX: one step by a relation in hand
      pub rule_decides : {E X : ℕ → ℕ → Type 0} {e r : ℕ → ℕ → Bool} → DecidesPairs t.states e E → DecidesPairs t.states r X
          → DecidesPairs t.states (λ x y. e x y && rule_b t compared p q f r x y) (λ x y. E x y × Rule t compared P Q F X x y)
      rule_decides {e = e} {r = r} de dr =
          record {
            sound =
                λ x y l k h. (de.sound x y l k (search conj), rule_map dr.sound x y (rule_out r x y l k (search conj)));
            whole =
                λ x y l k h. and_in (e x y) (rule_b t compared p q f r x y) (de.whole x y l k h.0)
                (rule_in r x y l k (rule_map dr.whole x y h.1));
          }

-- The relation of EG and EU is the largest that keeps its rule: tested, and an equivalence if the operands' relation is.
use mathlib.Core.Path.{◌≡◌, refl, subst}
use mathlib.Core.Bool.{Bool}
use lib.Dec.{T}
use Prim.Native.Nat.{◌*◌, ◌<◌, suc, zero, ℕ}
use Rattle.meaning.specs.Reference.Relation.{keep_b, largest_b, rule_b}
use Rattle.meaning.specs.Reference.Tests.{shrink}
use Rattle.meaning.specs.Relation.{InsidePairs, LargestRelation, Rule}
use Rattle.meaning.specs.Table.{Table}
use Rattle.meaning.proofs.Basic.Booleans.{and_in, conj}
use Rattle.meaning.proofs.Basic.Decides.{Decides, DecidesPairs}
use Rattle.meaning.proofs.Basic.Rounds.{greatest_out, pairs_below}
use Rattle.meaning.proofs.Classes.Rules.{Through, rule_flip, rule_in, rule_map, rule_out, rule_refl}

module _ (t : Table) (compared : ℕ → ℕ) where
  -- the largest relation keeps the rule itself
  pub relation_out : {P F : ℕ → Type 0} {E : ℕ → ℕ → Type 0} {x y : ℕ} → x < t.states → y < t.states → LargestRelation t compared E P F x y
      → E x y × Rule t compared P F F (LargestRelation t compared E P F) x y
  relation_out {x = x} {y = y} l k c =
      let h = c.keeps x y l k c.here in
      (h.0, rule_map t compared (λ u v m n r. record { rel = c.rel; here = r; keeps = c.keeps }) x y h.1)

  pub relation_sym : {P F : ℕ → Type 0} {E : ℕ → ℕ → Type 0} → InsidePairs t E (λ u v. E v u) → (x y : ℕ) → LargestRelation t compared E P F x y
      → LargestRelation t compared E P F y x
  relation_sym f x y r =
      record {
        rel = λ u v. r.rel v u;
        here = r.here;
        keeps = λ u v m n z. let k = r.keeps v u n m z in (f v u n m k.0, rule_flip t compared v u k.1);
      }

  -- EG, EU: the largest relation
  module _
      {P F : ℕ → Type 0}
      {p f : ℕ → Bool}
      (dp : Decides t.states p P)
      (df : Decides t.states f F)
      {E : ℕ → ℕ → Type 0}
      {e : ℕ → ℕ → Bool}
      (de : DecidesPairs t.states e E)
    where
      abbrev InPair : ℕ × ℕ → Type 0
      InPair q = (q.0 < t.states) × (q.1 < t.states)

      keep_in : (Z : ℕ × ℕ → Bool) (x y : ℕ) → x < t.states → y < t.states → E x y × Rule t compared P F F (λ u v. T (Z (u, v))) x y
          → T (keep_b t compared e p f Z (x, y))
      keep_in Z x y l k h =
          and_in (e x y) (rule_b t compared p f f (λ u v. Z (u, v)) x y) (de.whole x y l k h.0)
          (rule_in t compared dp df df (λ u v. Z (u, v)) x y l k h.1)

      keep_out : (Z : ℕ × ℕ → Bool) (x y : ℕ) → x < t.states → y < t.states → T (keep_b t compared e p f Z (x, y)) → E x y
          × Rule t compared P F F (λ u v. T (Z (u, v))) x y
      keep_out Z x y l k h =
          let r = rule_b t compared p f f (λ u v. Z (u, v)) x y in
          (de.sound x y l k (search conj), rule_out t compared dp df df (λ u v. Z (u, v)) x y l k (search conj))

      keep_mono : (Y Z : ℕ × ℕ → Bool) → ((q : ℕ × ℕ) → InPair q → T (Y q) → T (Z q)) → (q : ℕ × ℕ) → InPair q → T (keep_b t compared e p f Y q)
          → T (keep_b t compared e p f Z q)
      keep_mono Y Z h q l r =
          let c = keep_out Y q.0 q.1 l.0 l.1 r in
          keep_in Z q.0 q.1 l.0 l.1 (c.0, rule_map t compared (λ u v m n y. h (u, v) (m, n) y) q.0 q.1 c.1)

      relation_sound : (x y : ℕ) → x < t.states → y < t.states → T (largest_b t compared e p f x y) → LargestRelation t compared E P F x y
      relation_sound x y l k h =
          record {
            rel = largest_b t compared e p f;
            here = h;
            keeps =
                λ u v m n z.
                keep_out (shrink (keep_b t compared e p f) (t.states * t.states)) u v m n
                (greatest_out (pairs_below t.states) (keep_b t compared e p f) keep_mono (u, v) (m, n) z);
          }

      relation_below : (X : ℕ → ℕ → Type 0) → ((u v : ℕ) → u < t.states → v < t.states → X u v → E u v × Rule t compared P F F X u v)
          → (n : ℕ) (x y : ℕ) → x < t.states → y < t.states → X x y → T (shrink (keep_b t compared e p f) n (x, y))
      relation_below X h zero x y l k r = tt
      relation_below X h (suc n) x y l k r =
          let c = h x y l k r in
          keep_in (shrink (keep_b t compared e p f) n) x y l k (c.0, rule_map t compared (relation_below X h n) x y c.1)

      -- any relation, in types, that keeps the rule lies inside the largest
      pub relation_in : (X : ℕ → ℕ → Type 0) → ((u v : ℕ) → u < t.states → v < t.states → X u v → E u v × Rule t compared P F F X u v)
          → (x y : ℕ) → x < t.states → y < t.states → X x y → LargestRelation t compared E P F x y
      relation_in X h x y l k r = relation_sound x y l k (relation_below X h (t.states * t.states) x y l k r)

      abbrev C : ℕ → ℕ → Type 0
      C = LargestRelation t compared E P F

      -- so it has pairs of equals, and of what two of its pairs join
      pub relation_refl : ((x : ℕ) → x < t.states → E x x) → (x : ℕ) → x < t.states → C x x
      relation_refl h x l =
          relation_in (λ u v. u ≡ v) (λ u v m n e. subst (λ v. E u v × Rule t compared P F F (λ p q. p ≡ q) u v) e (h u m, rule_refl t compared u)) x x l l refl

      pub relation_trans : ((x y z : ℕ) → x < t.states → y < t.states → z < t.states → E x y → E y z → E x z)
          → ((x y z : ℕ) → x < t.states → y < t.states → z < t.states → C x y → C y z → Rule t compared P F F C x y → Rule t compared P F F C y z
          → Rule t compared P F F (Through t compared C) x z)
          → (x y z : ℕ) → x < t.states → y < t.states → z < t.states → C x y → C y z → C x z
      relation_trans h f x y z l k m r s = relation_in (Through t compared C) step x z l m (y, k, r, s)
        where
          step : (u w : ℕ) → u < t.states → w < t.states → Through t compared C u w → E u w × Rule t compared P F F (Through t compared C) u w
          step u w a b (v, d, p, q) =
              let g = relation_out a d p in
              let o = relation_out d b q in
              (h u v w a d b g.0 o.0, f u v w a d b p q g.1 o.1)

      pub relation_decides : DecidesPairs t.states (largest_b t compared e p f) (LargestRelation t compared E P F)
      relation_decides =
          record {
            sound = relation_sound;
            whole = λ x y l k c. relation_below (λ u v. T (c.rel u v)) c.keeps (t.states * t.states) x y l k c.here;
          }

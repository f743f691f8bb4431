-- Marks of the delivered tables are right in the merged combination: where a class is PASS the formula is true, where it is FAIL it is
-- false; at EG because of the guard.
use mathlib.Core.Path.{◌≡◌, refl, subst, sym}
use mathlib.Core.Logic.{inl, inr}
use mathlib.Core.Bool.{Bool}
use Prim.Native.Nat.{◌<◌, ℕ}
use Rattle.meaning.specs.Classes.{class_number, lowest_of}
use Rattle.meaning.specs.Combination.{State, Step}
use Rattle.meaning.specs.Formula.{Formula, atom, eg, eu, ex, neg, or, top}
use Rattle.meaning.specs.Marks.{Fail, Must, Pass}
use Rattle.meaning.specs.Merged.{MergedTruth, guard, merged_tables}
use Rattle.meaning.specs.Table.{Table, assignments}
use Rattle.meaning.specs.View.{View}
use Rattle.meaning.proofs.File.Formulas.{of_eg, of_eu_l, of_eu_r, of_ex, of_or_l, of_or_r}
use Rattle.meaning.proofs.Marks.Decided.{pass_decides}
use Rattle.meaning.proofs.Marks.Sets.{Derived, here, largest_out, least_derived, there}
use Rattle.meaning.proofs.Marks.Stays.{stays_next, stays_now}
use Rattle.meaning.proofs.Meaning.Paths.{Reach, always_in, always_now, done, more, next_in, next_out, until_in, until_out}
use Rattle.meaning.proofs.Meaning.Steps.{moves, must_step, step_total}
use Rattle.meaning.proofs.Meaning.Transfer.{Live}
use Rattle.meaning.proofs.Merged.Merging.{Finer, Merging, class_ok, fail_at_lem, finer_part, from_low, low_at, low_lt, lowest_state}
use Rattle.meaning.proofs.Merged.Merging.{merged_totals, name, name_lt, pass_at_lem, step_in, step_out, sym_at, total, truth_fail, truth_pass}
use Rattle.meaning.proofs.Merged.Merging.{unfail_at}

module _ {n : ℕ} {S : ℕ → Table} {A : Type 0} {val : A → (ℕ → ℕ) → Bool} {κ : ℕ → View A} {E : ℕ → ℕ → ℕ → Type 0} {cls : ℕ → ℕ → ℕ}
    (m : Merging n S val κ E cls) where
  abbrev M : ℕ → Table
  M = merged_tables n S cls

  abbrev PassIn : ℕ → Formula A → ℕ → Type 0
  PassIn i = Pass (S i) (κ i)

  abbrev FailIn : ℕ → Formula A → ℕ → Type 0
  FailIn i = Fail (S i) (κ i)

  live : Live (Step n M)
  live = step_total n M (merged_totals m)

  -- a step of component k's class to a PASS class, on every assignment
  must_merged : (k : ℕ) (l : k < n) (φ : Formula A) → Finer m φ → (c : State n M) → Must (S k) (PassIn k φ) (name m c k)
      → Must (M k) (λ j. PassIn k φ (lowest_of (S k) (cls k) j)) (c.at k)
  must_merged k l φ u c h a z =
      let (y, g, p) = h a z in
      let b = g.0 in
      let j = class_number (cls k) y in (
        j,
        step_in m k l (c.at k) (name m c k) a y (c.ok k l) (name_lt m c k l) ((m.equivalence k l).refl (name m c k) (name_lt m c k l)) g,
        pass_at_lem m φ k l b (low_lt m k l j (class_ok m k l y b)) (low_at m φ u k l y b) p,
      )

  -- PASS of EU: by what is built up at a member x of the class that stands in c
  merged_until : (k : ℕ) (l : k < n) {P Q : ℕ → Type 0} {P' Q' : State n M → Type 0}
      → ((x : ℕ) (c : State n M) → x < (S k).states → E k (name m c k) x → P x → P' c)
      → ((x : ℕ) (c : State n M) → x < (S k).states → E k (name m c k) x → Q x → Q' c)
      → (x : ℕ) → x < (S k).states → Derived (S k) P Q x → (c : State n M) → E k (name m c k) x → Reach (Step n M) P' Q' c
  merged_until k l p q x b (here h) c e = done (q x c b e h)
  merged_until k l p q x b (there h f g r) c e =
      let (d, s, (a, z, i)) =
      must_step n M (merged_totals m) {Q = Chosen} k l c (λ a z.
      (class_number (cls k) (f a z), step_in m k l (c.at k) x a (f a z) (c.ok k l) b e (g a z), (a, z, refl)))
      in
      let y = (g a z).0 in
      more (p x c b e h) s
      (merged_until k l p q (f a z) y (r a z) d (subst (λ j. E k (lowest_of (S k) (cls k) j) (f a z)) (sym i) (from_low m k l (f a z) y)))
    where
      -- the class of the successor that was built before, on some assignment
      Chosen : ℕ → Type 0
      Chosen j = (a : ℕ) × (z : a < assignments (S k)) × (j ≡ class_number (cls k) (f a z))

  -- FAIL of EU: by the length of the way
  fail_reach : (φ ψ : Formula A) → Finer m (eu φ ψ) → (k : ℕ) (l : k < n) {P Q : State n M → Type 0}
      → ((c : State n M) → FailIn k φ (name m c k) → P c → ⊥) → ((c : State n M) → FailIn k ψ (name m c k) → Q c → ⊥)
      → (c : State n M) → FailIn k (eu φ ψ) (name m c k) → Reach (Step n M) P Q c → ⊥
  fail_reach φ ψ u k l p q c h (done r) = q c (stays_now (S k) (total m k l) (FailIn k φ) (FailIn k ψ) (name m c k) (name_lt m c k l) h) r
  fail_reach φ ψ u k l p q c h (more {u = d} a s r) =
      let (i, b, z) = moves n M (merged_totals m) k l c d s in
      let (x, o, e, (y, g, t)) = step_out m k l (c.at k) i (d.at k) (c.ok k l) z in
      let v : Finer m φ = finer_part m φ (eu φ ψ) of_eu_l u in
      let hx = fail_at_lem m (eu φ ψ) k l (name_lt m c k l) o (u k l (name m c k) x (name_lt m c k l) o e) h in
      let nx : FailIn k φ x → ⊥ = λ z. p c (unfail_at m φ k l (name_lt m c k l) o (v k l (name m c k) x (name_lt m c k l) o e) z) a in
      let hy = stays_next (S k) (total m k l) (FailIn k φ) (FailIn k ψ) x y hx nx (i, b, g) in
      fail_reach φ ψ u k l p q d (fail_at_lem m (eu φ ψ) k l g.0 (name_lt m d k l) (u k l y (name m d k) g.0 (name_lt m d k l) t) hy) r

  -- where one component is PASS of EG none is FAIL
  pass_guards : (φ : Formula A) (k : ℕ) → k < n → (d : State n M) → PassIn k (eg φ) (name m d k) → guard n S cls κ val (eg φ) d
  pass_guards φ k l d p i o f = truth_fail m (eg φ) (lowest_state m d) i o f (truth_pass m (eg φ) (lowest_state m d) k l p)

  mutual
    pub merged_pass : (φ : Formula A) → Finer m φ → (c : State n M) (k : ℕ) → k < n → PassIn k φ (name m c k) → MergedTruth n S cls κ val φ c
    merged_pass top u c k l h = tt
    merged_pass (atom a) u c k l h = (m.fits.sound k l).passes a (lowest_state m c) h
    merged_pass (neg φ) u c k l h = λ r. merged_fail φ u c k l h r
    merged_pass (or φ ψ) u c k l (inl h) = inl (merged_pass φ (finer_part m φ (or φ ψ) of_or_l u) c k l h)
    merged_pass (or φ ψ) u c k l (inr h) = inr (merged_pass ψ (finer_part m ψ (or φ ψ) of_or_r u) c k l h)
    merged_pass (ex φ) u c k l h =
        let v : Finer m φ = finer_part m φ (ex φ) of_ex u in
        let (d, s, p) = must_step n M (merged_totals m) k l c (must_merged k l φ v c h) in
        next_in live c d tt s (merged_pass φ v d k l p)
    merged_pass (eg φ) u c k l h =
        always_in
        (λ d. PassIn k (eg φ) (name m d k))
        (λ d p. (merged_pass φ (finer_part m φ (eg φ) of_eg u) d k l (largest_out (S k) (name m d k) (name_lt m d k l) p).0, pass_guards φ k l d p))
        (λ d p. must_step n M (merged_totals m) k l d (must_merged k l (eg φ) u d (largest_out (S k) (name m d k) (name_lt m d k l) p).1)) c h
    merged_pass (eu φ ψ) u c k l h =
        let v : Finer m φ = finer_part m φ (eu φ ψ) of_eu_l u in
        let w : Finer m ψ = finer_part m ψ (eu φ ψ) of_eu_r u in
        let t = total m k l in
        until_in live (λ s d w r. tt) c tt
        (merged_until k l
        (λ x d b e p. merged_pass φ v d k l (pass_at_lem m φ k l b (name_lt m d k l)
        (sym_at m φ k l (name_lt m d k l) b (v k l (name m d k) x (name_lt m d k l) b e)) p))
        (λ x d b e p. merged_pass ψ w d k l (pass_at_lem m ψ k l b (name_lt m d k l)
        (sym_at m ψ k l (name_lt m d k l) b (w k l (name m d k) x (name_lt m d k l) b e)) p))
        (name m c k) (name_lt m c k l)
        (least_derived (S k) (pass_decides (S k) (κ k) t φ) (pass_decides (S k) (κ k) t ψ) (name m c k) (name_lt m c k l) h) c
        ((m.equivalence k l).refl (name m c k) (name_lt m c k l)))

    pub merged_fail : (φ : Formula A) → Finer m φ → (c : State n M) (k : ℕ) → k < n → FailIn k φ (name m c k) → MergedTruth n S cls κ val φ c → ⊥
    merged_fail top u c k l h r = h
    merged_fail (atom a) u c k l h r = (m.fits.sound k l).fails a (lowest_state m c) h r
    merged_fail (neg φ) u c k l h r = r (merged_pass φ u c k l h)
    merged_fail (or φ ψ) u c k l h (inl r) = merged_fail φ (finer_part m φ (or φ ψ) of_or_l u) c k l h.0 r
    merged_fail (or φ ψ) u c k l h (inr r) = merged_fail ψ (finer_part m ψ (or φ ψ) of_or_r u) c k l h.1 r
    merged_fail (ex φ) u c k l h r =
        let v : Finer m φ = finer_part m φ (ex φ) of_ex u in
        let (d, z, w) = next_out r in
        let (i, b, s) = moves n M (merged_totals m) k l c d z in
        let (x, o, e, (y, g, t)) = step_out m k l (c.at k) i (d.at k) (c.ok k l) s in
        let hx : FailIn k (ex φ) x = fail_at_lem m (ex φ) k l (name_lt m c k l) o (u k l (name m c k) x (name_lt m c k l) o e) h in
        merged_fail φ v d k l (fail_at_lem m φ k l g.0 (name_lt m d k l) (v k l y (name m d k) g.0 (name_lt m d k l) t) (hx y (i, b, g))) w
    merged_fail (eg φ) u c k l h r = (always_now r).1 k l h
    merged_fail (eu φ ψ) u c k l h r =
        fail_reach φ ψ u k l (λ d f p. merged_fail φ (finer_part m φ (eu φ ψ) of_eu_l u) d k l f p)
        (λ d f p. merged_fail ψ (finer_part m ψ (eu φ ψ) of_eu_r u) d k l f p) c h (until_out r)

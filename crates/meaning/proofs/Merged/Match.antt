-- Steps of the merged and of the full combination match, at a node φ of kind EX, EG or EU whose paths go on with χ, from states that are
-- related at φ, unless some component is PASS of φ.
use mathlib.Core.Path.{◌≡◌, ap, subst, sym}
use mathlib.Core.Logic.{◌⊎◌, inl, inr}
use mathlib.Core.Bool.{Bool, cond}
use lib.Dec.{T}
use native.Mathlib.Decide.{ℕ_discrete}
use Prim.Native.Nat.{◌<◌, ℕ}
use Rattle.meaning.specs.Classes.{class_number, lowest_of}
use Rattle.meaning.specs.Combination.{State, Step, driven, level}
use Rattle.meaning.specs.Formula.{Formula}
use Rattle.meaning.specs.Marks.{Fail, Pass}
use Rattle.meaning.specs.Merged.{merged_tables}
use Rattle.meaning.specs.Relation.{Rel, alike, failed, passed}
use Rattle.meaning.specs.Table.{Successor, Table, drives, owns, reading}
use Rattle.meaning.specs.Tests.{listed}
use Rattle.meaning.specs.View.{View}
use Rattle.meaning.proofs.Basic.Booleans.{own_eq}
use Rattle.meaning.proofs.Basic.Bounded.{all_or, any_same}
use Rattle.meaning.proofs.Classes.Equivalence.{RuleAt, rule_of}
use Rattle.meaning.proofs.File.Formulas.{Follows}
use Rattle.meaning.proofs.File.Tables.{drives_owns, reading_lt, reading_same}
use Rattle.meaning.proofs.Meaning.Steps.{join}
use Rattle.meaning.proofs.Merged.Merging.{Finer, Merging, class_ok, fail_at_lem, low_at, low_lt, merged_totals, step_in, step_out}
use Rattle.meaning.proofs.Merged.Merging.{name, name_lt, sym_at, total, trans_at}

module _ {n : ℕ} {S : ℕ → Table} {A : Type 0} {val : A → (ℕ → ℕ) → Bool} {κ : ℕ → View A} {E : ℕ → ℕ → ℕ → Type 0} {cls : ℕ → ℕ → ℕ}
    (m : Merging n S val κ E cls) where
  abbrev M : ℕ → Table
  M = merged_tables n S cls

  -- related part by part; no component FAIL; some component PASS
  abbrev pub Related : Formula A → State n M → State n S → Type 0
  Related φ c s = (i : ℕ) → i < n → Rel (S i) (κ i) φ (name m c i) (s.at i)

  abbrev pub NoFail : Formula A → (ℕ → ℕ) → Type 0
  NoFail φ s = (i : ℕ) → i < n → Fail (S i) (κ i) φ (s i) → ⊥

  abbrev pub SomePass : Formula A → (ℕ → ℕ) → Type 0
  SomePass φ s = (k : ℕ) × (k < n) × Pass (S k) (κ k) φ (s k)

  -- equal compared outputs give equal readings
  abbrev Same : State n M → State n S → Type 0
  Same c s = (i : ℕ) → i < n → (κ i).compared (name m c i) ≡ (κ i).compared (s.at i)

  read_same : (c : State n M) (s : State n S) → Same c s → (e : ℕ → Bool) (j : ℕ) → j < n
      → reading (S j).inputs (level n M c e) ≡ reading (S j).inputs (level n S s e)
  read_same c s h e j k =
      reading_same (S j).inputs (level n M c e) (level n S s e) (λ w z.
      ap (λ b. cond (driven n S w) b (e w)) (any_same n (λ i. drives (S i) (name m c i) w) (λ i. drives (S i) (s.at i) w) (λ i l.
      go w z i l (ℕ_discrete j i))))
    where
      go : (w : ℕ) → T (listed (S j).inputs w) → (i : ℕ) → i < n → Dec (j ≡ i) → drives (S i) (name m c i) w ≡ drives (S i) (s.at i) w
      go w z i l (no d) = m.fits.shows i l (name m c i) (s.at i) (h i l) j k d w z
      go w z i l (yes d) =
          own_eq (owns (S i) w) (drives (S i) (name m c i) w) (drives (S i) (s.at i) w)
          (λ o. absurd (m.fits.own i l w o (subst (λ j. T (listed (S j).inputs w)) d z))) (drives_owns (S i) (name m c i) w)
          (drives_owns (S i) (s.at i) w)

  module _ (φ χ : Formula A) (f : Follows φ χ) (uφ : Finer m φ) (uχ : Finer m χ) where
    abbrev RuleIn : (i : ℕ) → ℕ → ℕ → Type 0
    RuleIn i = RuleAt (S i) (κ i) φ χ

    rule_in : (i : ℕ) → i < n → {x y : ℕ} → x < (S i).states → y < (S i).states → Rel (S i) (κ i) φ x y → RuleIn i x y
    rule_in i l a b r = rule_of (S i) (κ i) f a b r

    -- where nobody is FAIL, the last clause relates all, or somebody is PASS on both sides
    outputs : (c : State n M) (s : State n S) → Related φ c s → NoFail φ (name m c) ⊎ NoFail φ s.at
        → Same c s ⊎ ((k : ℕ) × (k < n) × (Pass (S k) (κ k) φ (name m c k) × Pass (S k) (κ k) φ (s.at k)))
    outputs c s r nf = all_or n (λ i l. go i l (rule_in i l (name_lt m c i l) (s.ok i l) (r i l)))
      where
        go : (i : ℕ) → i < n → RuleIn i (name m c i) (s.at i)
            → ((κ i).compared (name m c i) ≡ (κ i).compared (s.at i)) ⊎ (Pass (S i) (κ i) φ (name m c i) × Pass (S i) (κ i) φ (s.at i))
        go i l (passed a b) = inr (a, b)
        go i l (failed a b) = absurd (elim nf [ inl z ↦ z i l a | inr z ↦ z i l b ])
        go i l (alike a) = inl a.same

    pub match_full : (c d : State n M) (s : State n S) → Related φ c s → NoFail φ s.at → NoFail χ (name m d) → Step n M c d
        → SomePass φ s.at ⊎ ((u : State n S) × Step n S s u × Related χ d u)
    match_full c d s r nf nd (e, h) = start (outputs c s r (inr nf))
      where
        a : ℕ → ℕ
        a i = reading (S i).inputs (level n S s e)

        -- where component i goes
        To : ℕ → Type 0
        To i = (z : ℕ) × (Successor (S i) (s.at i) (a i) z × Rel (S i) (κ i) χ (name m d i) z)

        -- a member x of its class goes to y, related to where the class goes
        move : (i : ℕ) (l : i < n)
            → ((x : ℕ) × (x < (S i).states) × E i (name m c i) x × ((y : ℕ) × Successor (S i) x (a i) y × E i y (name m d i)))
            → To i ⊎ Pass (S i) (κ i) φ (s.at i)
        move i l (x, b, rx, (y, sy, ry)) =
            go
            (rule_in i l b (s.ok i l)
            (trans_at m φ i l b (name_lt m c i l) (s.ok i l) (sym_at m φ i l (name_lt m c i l) b (uφ i l (name m c i) x (name_lt m c i l) b rx)) (r i l)))
          where
            q : Rel (S i) (κ i) χ y (name m d i)
            q = uχ i l y (name m d i) sy.0 (name_lt m d i l) ry

            go : RuleIn i x (s.at i) → To i ⊎ Pass (S i) (κ i) φ (s.at i)
            go (passed p p') = inr p'
            go (failed p p') = absurd (nf i l p')
            go (alike p) =
                let z =
                p.forth (a i) (reading_lt (S i).inputs (level n S s e)) y sy (λ f. nd i l (fail_at_lem m χ i l sy.0 (name_lt m d i l) q f))
                in
                inl (z.0, (z.1, trans_at m χ i l (name_lt m d i l) sy.0 z.1.0 (sym_at m χ i l sy.0 (name_lt m d i l) q) z.2))

        finish : ((i : ℕ) → i < n → To i) ⊎ SomePass φ s.at → SomePass φ s.at ⊎ ((u : State n S) × Step n S s u × Related χ d u)
        finish (inl f) = inr (join n S (total m) {P = λ i z. Rel (S i) (κ i) χ (name m d i) z} s e f)
        finish (inr p) = inl p

        start : Same c s ⊎ ((k : ℕ) × (k < n) × (Pass (S k) (κ k) φ (name m c k) × Pass (S k) (κ k) φ (s.at k)))
            → SomePass φ s.at ⊎ ((u : State n S) × Step n S s u × Related χ d u)
        start (inr (k, l, p)) = inl (k, l, p.1)
        start (inl o) =
            finish (all_or n (λ i l.
            move i l (step_out m i l (c.at i) (a i) (d.at i) (c.ok i l)
            (subst (λ r. Successor (M i) (c.at i) r (d.at i)) (read_same c s o e i l) (h i l)))))

    pub match_merged : (c : State n M) (s u : State n S) → Related φ c s → NoFail φ (name m c) → NoFail χ u.at → Step n S s u
        → SomePass φ (name m c) ⊎ ((d : State n M) × Step n M c d × Related χ d u)
    match_merged c s u r nf nu (e, h) = start (outputs c s r (inl nf))
      where
        a : ℕ → ℕ
        a i = reading (S i).inputs (level n S s e)

        -- the class where component i goes, on a reading
        To : ℕ → ℕ → Type 0
        To i a = (j : ℕ) × (Successor (M i) (c.at i) a j × Rel (S i) (κ i) χ (lowest_of (S i) (cls i) j) (u.at i))

        move : (i : ℕ) (l : i < n) → RuleIn i (name m c i) (s.at i) → To i (a i) ⊎ Pass (S i) (κ i) φ (name m c i)
        move i l (passed p q) = inr p
        move i l (failed p q) = absurd (nf i l p)
        move i l (alike p) =
            let (z, g, q) = p.back (a i) (reading_lt (S i).inputs (level n S s e)) (u.at i) (h i l) (nu i l) in
            let b = g.0 in
            let j = class_number (cls i) z in
            let k = low_lt m i l j (class_ok m i l z b) in
            let refl-c = (m.equivalence i l).refl (name m c i) (name_lt m c i l) in
            inl (
              j,
              (
                step_in m i l (c.at i) (name m c i) (a i) z (c.ok i l) (name_lt m c i l) refl-c g,
                trans_at m χ i l k b (u.ok i l) (sym_at m χ i l b k (low_at m χ uχ i l z b)) q,
              ),
            )

        finish : Same c s → ((i : ℕ) → i < n → To i (a i)) ⊎ SomePass φ (name m c)
            → SomePass φ (name m c) ⊎ ((d : State n M) × Step n M c d × Related χ d u)
        finish o (inl f) = inr
            (join n M (merged_totals m) {P = λ i j. Rel (S i) (κ i) χ (lowest_of (S i) (cls i) j) (u.at i)} c e
            (λ i l. subst (To i) (sym (read_same c s o e i l)) (f i l)))
        finish o (inr p) = inl p

        start : Same c s ⊎ ((k : ℕ) × (k < n) × (Pass (S k) (κ k) φ (name m c k) × Pass (S k) (κ k) φ (s.at k)))
            → SomePass φ (name m c) ⊎ ((d : State n M) × Step n M c d × Related χ d u)
        start (inr (k, l, p)) = inl (k, l, p.0)
        start (inl o) = finish o (all_or n (λ i l. move i l (rule_in i l (name_lt m c i l) (s.ok i l) (r i l))))

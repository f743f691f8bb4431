-- The work on the relation of EG and EU: it starts with the operands' pairs that are both PASS, both FAIL or have equal compared outputs, and
-- what is left when no row is to be looked at is the largest relation that keeps the rule.
use mathlib.Core.Path.{◌≡◌, sym, subst, ap, ◌∙◌}
use mathlib.Core.Logic.{◌⊎◌, inl, inr}
use mathlib.Core.Bool.{Bool, true, ◌&&◌, ◌||◌}
use mathlib.Core.List.{List}
use lib.Dec.{T, eqb, eqb→eq, eqb_refl}
use lib.ListN.{get_or}
use lib.Pow.{pow_pos}
use native.Mathlib.Decide.{dec_lt}
use native.Mathlib.Omega.{arith}
use Prim.Native.Nat.{ℕ, ◌^◌, ◌≤◌, ◌<◌}
use Rattle.words.specs.Sets.{has, built, below}
use Rattle.words.proofs.Members.{and_true, below_lt, has_below, has_none}
use Rattle.words.proofs.Built.{built_has, built_lt, built_same}
use Rattle.meaning.specs.Table.{Table}
use Rattle.meaning.specs.Relation.{LargestRelation, Rule, passed, failed, alike}
use Rattle.meaning.specs.Reference.Relation.{largest_b, matched_b}
use Rattle.meaning.proofs.Basic.Booleans.{and_in, and_l, and_r, or_l, or_r, or_out, test_eq}
use Rattle.meaning.proofs.Basic.Decides.{DecidesPairs, test_decides}
use Rattle.meaning.proofs.Classes.Largest.{relation_out, relation_decides}
use Rattle.meaning.proofs.Classes.Rules.{match_in, match_out, matched_at, rule_map}
use Rattle.classes.specs.Rows.{rel, rows}
use Rattle.classes.specs.Related.{related_all, related_fixed}
use Rattle.classes.specs.Matching.{conversed, rules, ruled}
use Rattle.meaning.specs.File.Grammar.{most_states}
use Rattle.mark_rules.specs.declared.Mark.{Mark}
use Rattle.refinement.specs.declared.side.Side.{Side}
use Rattle.refinement.specs.Again.{known_b, fine_b, Fine, Cut, Noted, Working}
use Rattle.classes.proofs.Padded.{padded_is, padded_past}
use Rattle.classes.proofs.Rows.{length_rows, row_at, rel_rows_lem}
use Rattle.classes.proofs.Ruled.{converse_at}

-- a test of pairs decides itself
test_pairs : {n : ℕ} (b : ℕ → ℕ → Bool) → DecidesPairs n b (λ x y. T (b x y))
test_pairs b = record { sound = λ x y l k h. h; whole = λ x y l k h. h }

-- rows have bits of the states alone
rows_cut : (n : ℕ) (b : ℕ → ℕ → Bool) → n ≤ most_states → Cut n (rows n b)
unfolding rows
rows_cut n b m = record { long = length_rows n b; narrow = narrow; past = padded_past most_states n (λ x. built n (b x)) }
  where
    narrow : (x : ℕ) → get_or (rows n b) x 0 < 2 ^ n
    narrow x =
        elim (dec_lt x n) [
          | yes l ↦ rw (row_at n b x m l) (built_lt n (b x))
          | no l ↦ rw (padded_past most_states n (λ x. built n (b x)) x (omega arith)) (pow_pos n)
        ]

module _ (t : Table) (compared operands : List ℕ) (mark : Mark) where
  abbrev states : ℕ
  states = t.states

  abbrev pass : ℕ
  pass = mark.pass

  abbrev fail : ℕ
  fail = mark.fail

  abbrev c : ℕ → ℕ
  c z = get_or compared z 0

  abbrev P : ℕ → Type 0
  P x = T (has pass x)

  abbrev F : ℕ → Type 0
  F x = T (has fail x)

  -- the largest relation, as a test
  abbrev most : ℕ → ℕ → Bool
  most x y = largest_b t c (rel operands) (has pass) (has fail) x y

  -- the operands' pairs with which the work starts
  abbrev first : List ℕ
  first = ruled states compared operands mark (related_all states) (related_all states)

  abbrev first_b : ℕ → ℕ → Bool
  first_b x y = rel operands x y && ((has pass x && has pass y) || ((has fail x && has fail y) || eqb (c x) (c y)))

  -- the work between the two
  abbrev pub Work : Side → Side → Type 0
  Work A B = Working t mark first_b most A B

  largest : DecidesPairs states most (LargestRelation t c (λ x y. T (rel operands x y)) P F)
  largest = relation_decides t c (test_decides (has pass)) (test_decides (has fail)) (test_pairs (rel operands))

  -- what the largest relation has keeps the rule by itself
  rule : (x y : ℕ) → x < states → y < states → T (most x y) → Rule t c P F F (λ u v. T (most u v)) x y
  rule x y l k h = rule_map t c (λ u v p q i. largest.whole u v p q i) x y (relation_out t c l k (largest.sound x y l k h)).1

  known_in : (x y : ℕ) → T (has pass x && has pass y) ⊎ T (has fail x && has fail y) → T (known_b mark x y)
  known_in x y (inl h) = or_l (has pass x && has pass y) (has fail x && has fail y) h
  known_in x y (inr h) = or_r (has pass x && has pass y) (has fail x && has fail y) h

  fine_known : (R : ℕ → ℕ → Bool) (x y : ℕ) → T (has pass x && has pass y) ⊎ T (has fail x && has fail y) → T (fine_b t mark R x y)
  fine_known R x y h = or_l (known_b mark x y) (matched_b t (λ z. 0) (has fail) (λ u v. R v u) y x) (known_in x y h)

  most_fine : Fine t mark most
  most_fine = record { each = λ x y l k h. on x y (rule x y l k h) }
    where
      on : (x y : ℕ) → Rule t c P F F (λ u v. T (most u v)) x y → T (fine_b t mark most x y)
      on x y (passed a b) = fine_known most x y (inl (and_in (has pass x) (has pass y) a b))
      on x y (failed a b) = fine_known most x y (inr (and_in (has fail x) (has fail y) a b))
      on x y (alike h) =
          or_r (known_b mark x y) (matched_b t (λ z. 0) (has fail) (λ u v. most v u) y x)
          (match_in t (λ z. 0) (test_decides (has fail)) (λ u v. most v u) y x h.back)

  most_back : Fine t mark (λ x y. most y x)
  most_back = record { each = λ x y l k h. on x y (rule y x k l h) }
    where
      on : (x y : ℕ) → Rule t c P F F (λ u v. T (most u v)) y x → T (fine_b t mark (λ x y. most y x) x y)
      on x y (passed a b) = fine_known (λ x y. most y x) x y (inl (and_in (has pass x) (has pass y) b a))
      on x y (failed a b) = fine_known (λ x y. most y x) x y (inr (and_in (has fail x) (has fail y) b a))
      on x y (alike h) =
          or_r (known_b mark x y) (matched_b t (λ z. 0) (has fail) (λ u v. most u v) y x)
          (match_in t (λ z. 0) (test_decides (has fail)) (λ u v. most u v) y x h.forth)

  module _ (m : states ≤ most_states) where
    -- ---- start
    first_at : (x y : ℕ) → x < states → y < states → rel first x y ≡ first_b x y
    unfolding ruled related_all
    first_at x y l k =
        rel_rows_lem states (rules compared operands mark (related_all states) (related_all states)) x y m l k
        ∙ ap (λ b. rel operands x y && ((has pass x && has pass y) || ((has fail x && has fail y) || b)))
        (ap (λ b. eqb (c x) (c y) && (b && b)) (rel_rows_lem states (λ x y. true) x y m l k) ∙ and_true (eqb (c x) (c y)))

    most_first : (x y : ℕ) → x < states → y < states → T (most x y) → T (first_b x y)
    most_first x y l k h =
        and_in (rel operands x y) (p || (q || e)) (relation_out t c l k (largest.sound x y l k h)).0 (on (rule x y l k h))
      where
        p : Bool
        p = has pass x && has pass y

        q : Bool
        q = has fail x && has fail y

        e : Bool
        e = eqb (c x) (c y)

        on : Rule t c P F F (λ u v. T (most u v)) x y → T (p || (q || e))
        on (passed a b) = or_l p (q || e) (and_in (has pass x) (has pass y) a b)
        on (failed a b) = or_r p (q || e) (or_l q e (and_in (has fail x) (has fail y) a b))
        on (alike h) = or_r p (q || e) (or_r q e (subst (λ o. T (eqb (c x) o)) h.same (eqb_refl (c x))))

    abbrev begun : List ℕ → Side
    begun r = record { rows = r; again = r; todo = below states }

    side : (r : List ℕ) → Cut states r → Noted t mark (begun r)
    side r h =
        record {
          cut = h;
          settled = λ x y l k i. inl i;
          listed = λ x y l i. subst T (sym (has_below states x l)) tt;
          narrow = below_lt states;
        }

    start : {s : List ℕ} → s ≡ conversed states first → Work (begun first) (begun s)
    unfolding ruled conversed
    start {s} e =
        record {
          fine = most_fine;
          back = most_back;
          inside = λ x y l k i. subst T (first_at x y l k) i;
          holds = λ x y l k i. subst T (sym (first_at x y l k)) (most_first x y l k i);
          turned = λ x y l k. ap (λ s. rel s y x) e ∙ converse_at states first y x m k l;
          one = side first (rows_cut states _ m);
          two = side s (rw e (rows_cut states _ m));
        }

    -- step by step as the code makes it
    pub working_start : {all r s : List ℕ} {every : ℕ} → all ≡ related_all states → r ≡ ruled states compared operands mark all all
        → s ≡ conversed states r → every ≡ below states
        → Work (record { rows = r; again = r; todo = every }) (record { rows = s; again = s; todo = every })
    working_start ea er es ey = rw (ey, er, ea) (start (rw (er, ea) at es))

    -- ---- end: no row is to be looked at
    all_fine : {A : Side} → Noted t mark A → A.todo ≡ 0 → (x y : ℕ) → x < states → y < states → T (rel A.rows x y)
        → T (fine_b t mark (rel A.rows) x y)
    all_fine {A} h n x y l k i = on (h.settled x y l k i)
      where
        on : T (rel A.again x y) ⊎ T (fine_b t mark (rel A.rows) x y) → T (fine_b t mark (rel A.rows) x y)
        on (inl z) = absurd (subst T (ap (λ w. has w x) n ∙ has_none x) (h.listed x y l z))
        on (inr f) = f

    module _ {A B : Side} (w : Work A B) (na : A.todo ≡ 0) (nb : B.todo ≡ 0) where
      abbrev Kept : ℕ → ℕ → Type 0
      Kept x y = Rule t c P F F (λ u v. T (rel A.rows u v)) x y

      -- both PASS or both FAIL
      by_known : (x y : ℕ) → T (known_b mark x y) → Kept x y
      by_known x y h = on (or_out (has pass x && has pass y) (has fail x && has fail y) h)
        where
          on : T (has pass x && has pass y) ⊎ T (has fail x && has fail y) → Kept x y
          on (inl h) = passed (and_l (has pass x) (has pass y) h) (and_r (has pass x) (has pass y) h)
          on (inr h) = failed (and_l (has fail x) (has fail y) h) (and_r (has fail x) (has fail y) h)

      keeps : (x y : ℕ) → x < states → y < states → T (rel A.rows x y) → T (rel operands x y) × Kept x y
      keeps x y l k i =
          let f = w.inside x y l k i in
          let p = has pass x && has pass y in
          let q = has fail x && has fail y in (
            and_l (rel operands x y) (p || (q || eqb (c x) (c y))) f,
            start (or_out p (q || eqb (c x) (c y)) (and_r (rel operands x y) (p || (q || eqb (c x) (c y))) f)),
          )
        where
          matched : ℕ → ℕ → List ℕ → Bool
          matched x y r = matched_b t (λ z. 0) (has fail) (λ u v. rel r v u) y x

          -- each half of the rule
          halves : c x ≡ c y → T (known_b mark x y) ⊎ T (matched x y A.rows) → T (known_b mark y x) ⊎ T (matched y x B.rows) → Kept x y
          halves o (inl h) b = by_known x y h
          halves o (inr h) (inl b) = by_known x y (on (or_out (has pass y && has pass x) (has fail y && has fail x) b))
            where
              on : T (has pass y && has pass x) ⊎ T (has fail y && has fail x) → T (known_b mark x y)
              on (inl h) = known_in x y (inl (and_in (has pass x) (has pass y) (and_r (has pass y) (has pass x) h) (and_l (has pass y) (has pass x) h)))
              on (inr h) = known_in x y (inr (and_in (has fail x) (has fail y) (and_r (has fail y) (has fail x) h) (and_l (has fail y) (has fail x) h)))
          halves o (inr h) (inr b) =
              alike
              (record {
                same = o;
                forth =
                    matched_at t (λ z. 0) x y (λ a u v p f g j. subst T (w.turned u v f.0 g.0) j)
                    (match_out t (λ z. 0) (test_decides (has fail)) (λ u v. rel B.rows v u) x y b);
                back = match_out t (λ z. 0) (test_decides (has fail)) (λ u v. rel A.rows v u) y x h;
              })

          start : T (has pass x && has pass y) ⊎ T ((has fail x && has fail y) || eqb (c x) (c y)) → Kept x y
          start (inl h) = by_known x y (known_in x y (inl h))
          start (inr h) = on (or_out (has fail x && has fail y) (eqb (c x) (c y)) h)
            where
              on : T (has fail x && has fail y) ⊎ T (eqb (c x) (c y)) → Kept x y
              on (inl h) = by_known x y (known_in x y (inr h))
              on (inr h) =
                  halves (eqb→eq (c x) (c y) h) (or_out (known_b mark x y) (matched x y A.rows) (all_fine w.one na x y l k i))
                  (or_out (known_b mark y x) (matched y x B.rows) (all_fine w.two nb y x k l (subst T (sym (w.turned x y l k)) i)))

      pub settled_end : A.rows ≡ related_fixed t compared operands mark
      unfolding related_fixed rows
      settled_end =
          padded_is most_states states (λ x. built states (most x)) A.rows m w.one.cut.long
          (λ x l.
          sym (built_has states (get_or A.rows x 0) (w.one.cut.narrow x))
          ∙ built_same states (rel A.rows x) (most x) (λ y k.
          test_eq (rel A.rows x y) (most x y)
          (λ i. largest.whole x y l k (record { rel = rel A.rows; here = i; keeps = λ u v p q j. keeps u v p q j })) (λ i. w.holds x y l k i)))
          (λ x l p. w.one.cut.past x l)

-- The rule and the largest relation depend on tests of the states alone, and on the successor words.
use mathlib.Core.Path.{◌≡◌, refl, ap, ap₂, ◌∙◌}
use mathlib.Core.Bool.{Bool, not, ◌&&◌, ◌||◌}
use mathlib.Core.List.{List}
use lib.Dec.{eqb}
use lib.ListN.{length}
use Prim.Native.Nat.{ℕ, zero, suc, ◌*◌, ◌<◌}
use Rattle.meaning.specs.Table.{Table, assignments, from_words}
use Rattle.meaning.specs.Reference.Tests.{all_below, shrink}
use Rattle.meaning.specs.Reference.Relation.{keep_b, largest_b, matched_b, meet_b, rule_b}
use Rattle.meaning.proofs.Basic.Bounded.{Agree, all_same, any_same}
use Rattle.meaning.proofs.Meaning.Full.{length_up_to}
use Rattle.meaning.specs.StepWords.{step_table}

-- tests that agree on pairs of states below n
abbrev pub AgreePairs : ℕ → (ℕ → ℕ → Bool) → (ℕ → ℕ → Bool) → Type 0
AgreePairs n R S = (x y : ℕ) → x < n → y < n → R x y ≡ S x y

module _ (t : Table) (c : ℕ → ℕ) where
  pub matched_agree : (f g : ℕ → Bool) (R S : ℕ → ℕ → Bool) → Agree t.states f g → AgreePairs t.states R S → (x y : ℕ)
      → matched_b t c f R x y ≡ matched_b t c g S x y
  matched_agree f g R S h k x y =
      all_same (assignments t) (λ a. all_below t.states (meet_b t c f R x y a)) (λ a. all_below t.states (meet_b t c g S x y a)) (λ a p.
      all_same t.states (meet_b t c f R x y a) (meet_b t c g S x y a) (λ u l.
      ap₂ (λ b e. not (t.next x a u && not b) || e) (h u l)
      (any_same t.states (λ v. t.next y a v && R u v) (λ v. t.next y a v && S u v) (λ v q. ap (λ b. t.next y a v && b) (k u v l q)))))

  module _
      (d : ℕ → ℕ)
      (same : (x : ℕ) → x < t.states → c x ≡ d x)
      (p p' f f' : ℕ → Bool)
      (hp : Agree t.states p p')
      (hf : Agree t.states f f')
    where
      pub rule_agree : (q q' : ℕ → Bool) (R S : ℕ → ℕ → Bool) → Agree t.states q q' → AgreePairs t.states R S
          → AgreePairs t.states (rule_b t c p q f R) (rule_b t d p' q' f' S)
      rule_agree q q' R S hq h x y l k =
          ap₂ (λ a b. a || b) (ap₂ (λ a b. a && b) (hp x l) (hp y k))
          (ap₂ (λ a b. a || b) (ap₂ (λ a b. a && b) (hq x l) (hq y k))
          (ap₂ (λ a b. a && b) (ap₂ (λ a b. eqb a b) (same x l) (same y k))
          (ap₂ (λ a b. a && b) (matched_agree f f' R S hf h x y)
          (matched_agree f f' (λ u v. R v u) (λ u v. S v u) hf (λ u v i j. h v u j i) y x))))

      rounds_agree : (e e' : ℕ → ℕ → Bool) → AgreePairs t.states e e' → (n : ℕ)
          → AgreePairs t.states (λ x y. shrink (keep_b t c e p f) n (x, y)) (λ x y. shrink (keep_b t d e' p' f') n (x, y))
      rounds_agree e e' h zero x y l k = refl
      rounds_agree e e' h (suc n) x y l k =
          ap₂ (λ a b. a && b) (h x y l k)
          (rule_agree f f' (λ u v. shrink (keep_b t c e p f) n (u, v)) (λ u v. shrink (keep_b t d e' p' f') n (u, v)) hf (rounds_agree e e' h n) x y l k)

      pub largest_agree : (e e' : ℕ → ℕ → Bool) → AgreePairs t.states e e' → AgreePairs t.states (largest_b t c e p f) (largest_b t d e' p' f')
      largest_agree e e' h x y l k = rounds_agree e e' h (t.states * t.states) x y l k

-- the lent words as a table, and a table of a file with the same words
module _ (n : ℕ) (inputs outputs outs succ : List ℕ) (c : ℕ → ℕ) where
  abbrev lent : Table
  lent = step_table n (length inputs) succ

  abbrev whole : Table
  whole = from_words n inputs outputs outs succ

  pub rule_lent : (p q f : ℕ → Bool) (R : ℕ → ℕ → Bool) (x y : ℕ) → rule_b lent c p q f R x y ≡ rule_b whole c p q f R x y
  rule_lent p q f R x y = rw (length_up_to (length inputs))

  module _ (e : ℕ → ℕ → Bool) (p f : ℕ → Bool) where
    rounds_lent : (k : ℕ) → AgreePairs n (λ x y. shrink (keep_b lent c e p f) k (x, y)) (λ x y. shrink (keep_b whole c e p f) k (x, y))
    rounds_lent zero x y i j = refl
    rounds_lent (suc k) x y i j =
        ap (λ b. e x y && b)
        (rule_lent p f f (λ u v. shrink (keep_b lent c e p f) k (u, v)) x y
        ∙ rule_agree whole c c (λ z l. refl) p p f f (λ z l. refl) (λ z l. refl) f f (λ u v. shrink (keep_b lent c e p f) k (u, v))
        (λ u v. shrink (keep_b whole c e p f) k (u, v)) (λ z l. refl) (rounds_lent k) x y i j)

    pub largest_lent : AgreePairs n (largest_b lent c e p f) (largest_b whole c e p f)
    largest_lent x y i j = rounds_lent (n * n) x y i j

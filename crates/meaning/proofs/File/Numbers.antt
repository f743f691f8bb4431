-- What the grammar's parsers of single numbers promise: numbers, ranges, listed and named signals (specs/File/Number, Grammar).
use mathlib.Core.Path.{◌∙◌, ◌≡◌, ap, refl, subst, sym}
use mathlib.Core.Bool.{Bool, ◌&&◌, false, not, true}
use mathlib.Core.List.{List, [], ◌∷◌}
use lib.Dec.{T, T_not, leb, leb→le, ltb, ltb→lt}
use lib.ListN.{drop, take}
use lib.Seq.{take-nil}
use native.Mathlib.Omega.{arith}
use Prim.Native.Nat.{◌%◌, ◌+◌, ◌-◌, ◌<◌, ◌≤◌, suc, zero, ℕ}
use Rattle.words.specs.Sets.{has}
use Rattle.meaning.specs.File.Grammar.{Limits, between, less_than, named, number, signal}
use Rattle.meaning.specs.File.Number.{choose, groups, with_higher}
use Rattle.meaning.specs.File.Parser.{Got, demand, fault, found, on}
use Rattle.meaning.specs.File.Promise.{Within}
use Rattle.meaning.proofs.Basic.Booleans.{and_l, and_r}
use Rattle.meaning.proofs.File.Lists.{Says}
use Rattle.meaning.proofs.File.Parsers.{Reads, reads_bind, reads_demand, reads_give, reads_then, weaker}

-- the first k of a list, from a place on
pub drop_take : {A : Type 0} (at k : ℕ) (l : List A) → drop at (take k l) ≡ take (k - at) (drop at l)
drop_take zero k l = let e : k - 0 ≡ k = omega arith in rw e refl
drop_take (suc at) zero l = let e : 0 - suc at ≡ 0 = omega arith in rw e refl
drop_take (suc at) (suc k) [] = sym (take-nil (suc k - suc at))
drop_take (suc at) (suc k) (x ∷ l) = let e : suc k - suc at ≡ k - at = omega arith in rw e (drop_take at k l)

-- a number of `more` + 1 groups ends after as many bytes
abbrev Ends : ℕ → ℕ → ℕ → Type 0
Ends n v e = Unit {0} × (e ≤ n)

higher_ends : (n g : ℕ) (r : Got ℕ) → Says (Ends n) r → Says (Ends n) (with_higher g r)
higher_ends n g (found zero e) h = tt
higher_ends n g (found (suc v) e) h = h
higher_ends n g (fault r) h = tt

groups_end : (top more : ℕ) (bs : List ℕ) (at : ℕ) → Says (Ends (at + suc more)) (groups top more bs at)
unfolding groups
groups_end top more [] at = tt
groups_end top zero (b ∷ bs) at = go (ltb top b)
  where
    go : (t : Bool) → Says (Ends (at + 1)) (choose t (fault 2) (found b (suc at)))
    go true = tt
    go false = (tt, omega arith)
groups_end top (suc more) (b ∷ bs) at =
    let e : suc at + suc more ≡ at + suc (suc more) = omega arith in
    go (ltb b 128) (higher_ends (at + suc (suc more)) (b % 128) (groups top more bs (suc at))
    (subst (λ n. Says (Ends n) (groups top more bs (suc at))) e (groups_end top more bs (suc at))))
  where
    go : (t : Bool) → Says (Ends (at + suc (suc more))) (with_higher (b % 128) (groups top more bs (suc at)))
        → Says (Ends (at + suc (suc more))) (choose t (found b (suc at)) (with_higher (b % 128) (groups top more bs (suc at))))
    go true h = (tt, omega arith)
    go false h = h

-- and only those bytes matter
groups_same : (top more m : ℕ) (bs : List ℕ) (at : ℕ) → more < m → groups top more (take m bs) at ≡ groups top more bs at
unfolding groups
groups_same top more zero bs at l = absurd (omega arith)
groups_same top more (suc m) [] at l = refl
groups_same top zero (suc m) (b ∷ bs) at l = refl
groups_same top (suc more) (suc m) (b ∷ bs) at l =
    ap (λ g. choose (ltb b 128) (found b (suc at)) (with_higher (b % 128) g)) (groups_same top more m bs (suc at) (omega arith))

-- a listed signal is from `low` on and below W, and is not taken
pub record SignalRead (W taken low v : ℕ) : Type 0 where
  pub from : low ≤ v
  pub below : v < W
  pub free : T (has taken v) → ⊥

module _ (L : Limits) where
  -- the bytes of the longest number
  abbrev pub width : ℕ
  width = suc L.groups_before

  pub reads_number : Reads (number L) width (λ v. Unit {0})
  reads_number =
      record {
        says = λ file at. groups_end L.last_group L.groups_before (drop at file) at;
        same =
            λ k file at h. ap (λ bs. groups L.last_group L.groups_before bs at) (drop_take at k file)
            ∙ groups_same L.last_group L.groups_before (k - at) (drop at file) at (omega arith);
      }

  -- a number that has to pass one test
  tested : (test : ℕ → Bool) (r : ℕ) (Q : ℕ → Type 0) → ((v : ℕ) → T (test v) → Q v)
      → Reads (λ file at. on (number L file at) (λ v n. on (demand (test v) r file n) (λ d n. found v n))) width Q
  tested test r Q f =
      weaker (omega arith) (λ v h. h)
      (reads_bind reads_number (λ v u. reads_then (reads_demand (test v) r) (λ d h. reads_give Q v (f v h))))

  pub reads_between : (lo hi r : ℕ) → Reads (between L lo hi r) width (Within lo hi)
  unfolding between
  reads_between lo hi r =
      tested (λ v. leb lo v && leb v hi) r (Within lo hi)
      (λ v h. (leb→le lo v (and_l (leb lo v) (leb v hi) h), leb→le v hi (and_r (leb lo v) (leb v hi) h)))

  pub reads_less : (bound r : ℕ) → Reads (less_than L bound r) width (λ v. v < bound)
  unfolding less_than
  reads_less bound r = tested (λ v. ltb v bound) r (λ v. v < bound) (λ v h. ltb→lt v bound h)

  pub reads_named : (W driven : ℕ) → Reads (named L W driven) width (λ v. T (has driven v))
  unfolding named
  reads_named W driven = tested (λ v. ltb v W && has driven v) _ (λ v. T (has driven v)) (λ v h. and_r (ltb v W) (has driven v) h)

  pub reads_signal : (W taken low : ℕ) → Reads (signal L W taken low) width (SignalRead W taken low)
  unfolding signal
  reads_signal W taken low =
      weaker (omega arith) (λ v h. h)
      (reads_bind reads_number (λ v u. reads_then (reads_demand (leb low v && ltb v W) _)
      (λ d h. reads_then (reads_demand (not (has taken v)) _) (λ d' k. reads_give (SignalRead W taken low) v
      (record {
        from = leb→le low v (and_l (leb low v) (ltb v W) h);
        below = ltb→lt v W (and_r (leb low v) (ltb v W) h);
        free = T_not (has taken v) k;
      })))))

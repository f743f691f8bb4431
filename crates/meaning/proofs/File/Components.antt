-- What the grammar's parsers of signal lists and components promise (specs/File/Grammar, Promise).
use mathlib.Core.Path.{◌≡◌, ◌∙◌, ap, refl, subst, sym}
use mathlib.Core.Logic.{◌≢◌}
use mathlib.Core.List.{List, [], ◌∷◌}
use lib.Dec.{T}
use lib.ListN.{get_or, length}
use lib.Pow.{lt_of_le_ones, pow-lt, pow_mono, pow_pos}
use native.Mathlib.Nat.{div-lt_iff_lt-mul, mul-le-mul}
use native.Mathlib.Omega.{arith}
use Prim.Native.Nat.{◌*◌, ◌+◌, ◌/◌, ◌<◌, ◌^◌, ◌≤◌, suc, zero, ℕ}
use Rattle.words.specs.Sets.{has}
use Rattle.meaning.specs.File.Grammar.{Component, Limits, between, component, components, filled, filled_from, filled_set, signal, signals, with_all}
use Rattle.meaning.specs.File.Parser.{done, repeat}
use Rattle.meaning.specs.File.Promise.{PromisedComponent, Signals, Within}
use Rattle.meaning.specs.Tests.{All, listed}
use Rattle.meaning.proofs.Basic.Lists.{all_map}
use Rattle.meaning.proofs.File.Driven.{with_all_listed, with_all_set}
use Rattle.meaning.proofs.File.Lists.{Along, Sequence, along_all}
use Rattle.meaning.proofs.File.Members.{all_member}
use Rattle.meaning.proofs.File.Numbers.{SignalRead, reads_between, reads_signal, width}
use Rattle.meaning.proofs.File.Parsers.{Reads, reads_bind, reads_give, reads_list, weaker}

-- ---- listed signals
-- so many signals, none of them taken
pub record SignalsRead (W taken k : ℕ) (vs : List ℕ) : Type 0 where
  pub long : length vs ≡ k
  pub ordered : Signals W vs
  pub free : (w : ℕ) → T (listed vs w) → T (has taken w) → ⊥

-- the next may only be higher than the one before
module _ (W taken : ℕ) (next : ℕ → ℕ → ℕ) (higher : (low v : ℕ) → v < next low v) where
  from_low : (low : ℕ) (vs : List ℕ) → Along (SignalRead W taken) next low vs → (j : ℕ) → j < length vs → low ≤ get_or vs j 0
  from_low low [] h j l = absurd (omega arith)
  from_low low (v ∷ vs) h zero l = h.0.from
  from_low low (v ∷ vs) h (suc j) l = omega (arith, h.0.from, higher low v, from_low (next low v) vs h.1 j (omega arith))

  ascending : (low : ℕ) (vs : List ℕ) → Along (SignalRead W taken) next low vs → (i j : ℕ) → i < j → j < length vs
      → get_or vs i 0 < get_or vs j 0
  ascending low [] h i j l k = absurd (omega arith)
  ascending low (v ∷ vs) h i zero l k = absurd (omega arith)
  ascending low (v ∷ vs) h zero (suc j) l k = omega (arith, higher low v, from_low (next low v) vs h.1 j (omega arith))
  ascending low (v ∷ vs) h (suc i) (suc j) l k = ascending (next low v) vs h.1 i j (omega arith) (omega arith)

  each_signal : (low : ℕ) (vs : List ℕ) → Along (SignalRead W taken) next low vs → All (λ v. (v < W) × (T (has taken v) → ⊥)) vs
  each_signal low [] h = tt
  each_signal low (v ∷ vs) h = ((h.0.below, h.0.free), each_signal (next low v) vs h.1)

  signals_read : (k low : ℕ) (vs : List ℕ) → Sequence (SignalRead W taken) next k low vs → SignalsRead W taken k vs
  signals_read k low vs h =
      let each = each_signal low vs h.items in
      record {
        long = h.long;
        ordered = record { ascending = ascending low vs h.items; below = all_map (λ v p. p.0) vs each };
        free = λ w o t. (all_member (λ v. (v < W) × (T (has taken v) → ⊥)) vs each w o).1 t;
      }

-- a filled successor set has a member, and none past the states
set_filled : (s x v : ℕ) → x < s → v < 2 ^ s → (filled_set x v ≢ 0) × (filled_set x v < 2 ^ s)
set_filled s x zero l h = (λ z. omega (arith, z, pow_pos x), pow-lt {j = s} l)
set_filled s x (suc v) l h = (λ z. omega arith, h)

-- the sets from place p on, of states below s
sets_filled : (s i p : ℕ) (vs : List ℕ) → p + length vs ≤ s * 2 ^ i → All (λ v. v < 2 ^ s) vs
    → All (λ v. (v ≢ 0) × (v < 2 ^ s)) (filled_from i p vs)
sets_filled s i p [] l h = tt
sets_filled s i p (v ∷ vs) l h = (
  set_filled s (p / 2 ^ i) v ((div-lt_iff_lt-mul (pow_pos i)).1 (omega arith)) h.0,
  sets_filled s i (suc p) vs (omega arith) h.1,
)

pub filled_length : (i p : ℕ) (vs : List ℕ) → length (filled_from i p vs) ≡ length vs
filled_length i p [] = refl
filled_length i p (v ∷ vs) = ap suc (filled_length i (suc p) vs)

module _ (L : Limits) where
  pub reads_signals : (W taken k n : ℕ) → k ≤ n → Reads (signals L W taken k) (n * width L) (SignalsRead W taken k)
  reads_signals W taken k n l =
      weaker (omega arith) (λ vs h. signals_read W taken _ (λ low v. omega arith) k 0 vs h)
      (reads_list (signal L W taken) _ (SignalRead W taken) (reads_signal L W taken) k n l 0)

  -- so many words, each in a range
  pub reads_words : (lo hi k n : ℕ) (Q : ℕ → Type 0) → ((v : ℕ) → Within lo hi v → Q v) → k ≤ n
      → Reads (repeat (between L lo hi 6) k) (n * width L) (λ vs. (length vs ≡ k) × All Q vs)
  reads_words lo hi k n Q f l =
      weaker (omega arith) (λ vs h. (h.long, all_map f vs (along_all (Within lo hi) done vs h.items)))
      (reads_list (λ s. between L lo hi 6) (λ s a. s) (λ s. Within lo hi) (λ s. reads_between L lo hi 6) k n l done)

  -- ---- a component
  -- how many numbers the largest one has
  abbrev pub component_numbers : ℕ
  component_numbers = 3 + L.inputs + L.outputs + L.states + L.states * 2 ^ L.inputs

  pub record ComponentRead (W driven : ℕ) (c : Component) : Type 0 where
    pub itself : PromisedComponent L W c
    -- none of its outputs was driven before
    pub free : (w : ℕ) → T (listed c.outputs w) → T (has driven w) → ⊥

  pub reads_component : (W driven : ℕ) → Reads (component L filled W driven) (component_numbers * width L) (ComponentRead W driven)
  unfolding component
  reads_component W driven =
      weaker (omega arith) (λ c h. h)
      (reads_bind (reads_between L _ _ _) (λ s hs.
      reads_bind (reads_between L _ _ _) (λ i hi.
      reads_bind (reads_signals W _ i L.inputs hi.1) (λ inputs qi.
      reads_bind (reads_between L _ _ _) (λ o ho.
      reads_bind (reads_signals W _ o L.outputs ho.1) (λ outputs qo.
      reads_bind (reads_words _ _ s L.states (λ v. v < 2 ^ o) (λ v h. lt_of_le_ones o h.1) hs.1) (λ outs qw.
      reads_bind (reads_words _ _ (s * 2 ^ i) (L.states * 2 ^ L.inputs) (λ v. v < 2 ^ s)
      (λ v h. lt_of_le_ones s h.1) (mul-le-mul hs.1 (pow_mono hi.1))) (λ nexts qn.
      reads_give (ComponentRead W driven) (filled (record { states = s; inputs = inputs; outputs = outputs; outs = outs; nexts = nexts }))
      (record {
        itself =
            record {
              states = hs;
              input_count = omega (arith, qi.long, hi.1);
              inputs = qi.ordered;
              output_count = omega (arith, qo.long, ho.1);
              outputs = qo.ordered;
              own = λ w p q. qo.free w p (with_all_listed driven inputs w q);
              out_count = qw.0;
              outs = subst (λ o. All (λ v. v < 2 ^ o) outs) (sym qo.long) qw.1;
              next_count = filled_length (length inputs) 0 nexts ∙ subst (λ i. length nexts ≡ s * 2 ^ i) (sym qi.long) qn.0;
              nexts =
                  sets_filled s (length inputs) 0 nexts
                  (subst (λ i. 0 + length nexts ≤ s * 2 ^ i) (sym qi.long) (omega (arith, qn.0))) qn.1;
            };
        free = λ w p q. qo.free w p (with_all_set driven inputs w q);
      })))))))))

  -- ---- the components, one after the other
  module _ (W : ℕ) (none : Component) where
    abbrev Run : ℕ → List Component → Type 0
    Run driven cs = Along (ComponentRead W) (λ driven c. with_all driven c.outputs) driven cs

    each_component : (driven : ℕ) (cs : List Component) → Run driven cs → All (PromisedComponent L W) cs
    each_component driven [] h = tt
    each_component driven (c ∷ cs) h = (h.0.itself, each_component (with_all driven c.outputs) cs h.1)

    run_free : (driven : ℕ) (cs : List Component) → Run driven cs → (j : ℕ) → j < length cs → (w : ℕ) → T (listed (get_or cs j none).outputs w)
        → T (has driven w) → ⊥
    run_free driven [] h j l w p q = absurd (omega arith)
    run_free driven (c ∷ cs) h zero l w p q = h.0.free w p q
    run_free driven (c ∷ cs) h (suc j) l w p q =
        run_free (with_all driven c.outputs) cs h.1 j (omega arith) w p (with_all_set driven c.outputs w q)

    run_apart : (driven : ℕ) (cs : List Component) → Run driven cs → (i j : ℕ) → i < j → j < length cs → (w : ℕ)
        → T (listed (get_or cs i none).outputs w) → T (listed (get_or cs j none).outputs w) → ⊥
    run_apart driven [] h i j k l w p q = absurd (omega arith)
    run_apart driven (c ∷ cs) h i zero k l w p q = absurd (omega arith)
    run_apart driven (c ∷ cs) h zero (suc j) k l w p q =
        run_free (with_all driven c.outputs) cs h.1 j (omega arith) w q (with_all_listed driven c.outputs w p)
    run_apart driven (c ∷ cs) h (suc i) (suc j) k l w p q =
        run_apart (with_all driven c.outputs) cs h.1 i j (omega arith) (omega arith) w p q

    pub record ComponentsRead (n : ℕ) (cs : List Component) : Type 0 where
      pub long : length cs ≡ n
      pub each : All (PromisedComponent L W) cs
      pub apart : (i j : ℕ) → i < j → j < length cs → (w : ℕ) → T (listed (get_or cs i none).outputs w)
          → T (listed (get_or cs j none).outputs w) → ⊥

    pub reads_components : (n : ℕ) → n ≤ L.components
        → Reads (components L filled W n) (L.components * (component_numbers * width L)) (ComponentsRead n)
    reads_components n l =
        weaker (omega arith) (λ cs h. record { long = h.long; each = each_component 0 cs h.items; apart = run_apart 0 cs h.items })
        (reads_list (component L filled W) (λ driven c. with_all driven c.outputs) (ComponentRead W) (reads_component W) n L.components l 0)

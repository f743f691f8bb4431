-- The place moves on only past a number that was read (document 01): what is found ends after where it began, within the file.
use mathlib.Core.Bool.{Bool, true, false, ◌&&◌, not}
use mathlib.Core.List.{List, [], ◌∷◌}
use lib.Dec.{ltb, leb}
use lib.ListN.{length, drop, length-drop}
use native.Mathlib.Omega.{arith}
use Prim.Native.Nat.{ℕ, zero, suc, ◌+◌, ◌-◌, ◌*◌, ◌%◌, ◌^◌, ◌≤◌, ◌<◌}
use Rattle.words.specs.Sets.{has}
use Rattle.meaning.specs.File.Parser.{Got, found, fault, Parser, Done, done, demand, on, list_of, repeat}
use Rattle.meaning.specs.File.Number.{choose, with_higher, groups}
use Rattle.meaning.specs.File.Grammar.{Component, limits, number, between, signal, signals, component, filled, with_all}
use Rattle.meaning.proofs.File.Lists.{Says, says_map, on_says, list_none, list_more}

-- bytes of a number are read, and no others
groups_on : (top more : ℕ) (bs : List ℕ) (at : ℕ) → Says (λ v n. (at < n) × (n ≤ at + length bs)) (groups top more bs at)
unfolding groups
groups_on top zero [] at = tt
groups_on top (suc more) [] at = tt
groups_on top zero (b ∷ bs) at = go (ltb top b)
  where
    go : (t : Bool) → Says (λ v n. (at < n) × (n ≤ at + length (b ∷ bs))) (choose t (fault 2) (found b (suc at)))
    go true = tt
    go false = (omega arith, omega arith)
groups_on top (suc more) (b ∷ bs) at = go (ltb b 128) (groups top more bs (suc at)) (groups_on top more bs (suc at))
  where
    go : (t : Bool) (g : Got ℕ) → Says (λ v n. (suc at < n) × (n ≤ suc at + length bs)) g
        → Says (λ v n. (at < n) × (n ≤ at + length (b ∷ bs))) (choose t (found b (suc at)) (with_higher (b % 128) g))
    go true g h = (omega arith, omega arith)
    go false (found zero n) h = tt
    go false (found (suc v) n) h = (omega (arith, h.0), omega (arith, h.1))
    go false (fault r) h = tt

module _ (file : List ℕ) where
  -- past a place, and on from it
  abbrev pub Past : {A : Type 0} → ℕ → A → ℕ → Type 0
  Past at a n = (at < n) × (n ≤ length file)

  abbrev pub Onward : {A : Type 0} → ℕ → A → ℕ → Type 0
  Onward at a n = (at ≤ n) × (n ≤ length file)

  number_past : (at : ℕ) → Says (Past at) (number limits file at)
  number_past at =
      let l = length-drop at file in
      says_map (λ v n. (at < n) × (n ≤ at + length (drop at file))) (Past at) (λ v n h. (h.0, omega (arith, h.0, h.1)))
      (number limits file at) (groups_on limits.last_group limits.groups_before (drop at file) at)

  -- a test reads nothing
  tested : {A : Type 0} (b : Bool) (r n at : ℕ) (a : A) → Past {A = A} at a n → Says (Past at) (on (demand b r file n) (λ x m. found a m))
  tested true r n at a h = h
  tested false r n at a h = tt

  pub between_past : (lo hi r at : ℕ) → Says (Past at) (between limits lo hi r file at)
  unfolding between
  between_past lo hi r at =
      on_says (Past at) (Past at) (number limits file at) (λ v n. on (demand (leb lo v && leb v hi) r file n) (λ x m. found v m)) (number_past at)
      (λ v n h. tested (leb lo v && leb v hi) r n at v h)

  signal_past : (W taken low at : ℕ) → Says (Past at) (signal limits W taken low file at)
  unfolding signal
  signal_past W taken low at =
      on_says (Past at) (Past at) (number limits file at)
      (λ v n. on (demand (leb low v && ltb v W) 4 file n) (λ x m. on (demand (not (has taken v)) 5 file m) (λ x m. found v m))) (number_past at)
      (λ v n h. both (leb low v && ltb v W) n v h)
    where
      both : (b : Bool) (n v : ℕ) → Past {A = ℕ} at v n
          → Says (Past at) (on (demand b 4 file n) (λ x m. on (demand (not (has taken v)) 5 file m) (λ x m. found v m)))
      both true n v h = tested (not (has taken v)) 5 n at v h
      both false n v h = tt

  -- what is read on from a place past another is past that too
  later : {A : Type 0} (at n : ℕ) (g : Got A) → at < n → Says (Onward n) g → Says (Past at) g
  later at n g l h = says_map (Onward n) (Past at) (λ a m p. (omega (arith, p.0), p.1)) g h

  on_later : {A : Type 0} (at n : ℕ) (g : Got A) → at ≤ n → Says (Onward n) g → Says (Onward at) g
  on_later at n g l h = says_map (Onward n) (Onward at) (λ a m p. (omega (arith, p.0), p.1)) g h

  -- one thing, and what is read on after it
  then : {A B : Type 0} (at : ℕ) (g : Got A) (f : A → ℕ → Got B) → Says (Onward at) g
      → ((a : A) (n : ℕ) → n ≤ length file → Says (Onward n) (f a n)) → Says (Onward at) (on g f)
  then at g f h k = on_says (Onward at) (Onward at) g f h (λ a n p. on_later at n (f a n) p.0 (k a n p.1))

  then_past : {A B : Type 0} (at : ℕ) (g : Got A) (f : A → ℕ → Got B) → Says (Past at) g
      → ((a : A) (n : ℕ) → n ≤ length file → Says (Onward n) (f a n)) → Says (Past at) (on g f)
  then_past at g f h k = on_says (Past at) (Past at) g f h (λ a n p. later at n (f a n) p.0 (k a n p.1))

  onward : {A : Type 0} (at : ℕ) (g : Got A) → Says (Past at) g → Says (Onward at) g
  onward at g h = says_map (Past at) (Onward at) (λ a n p. (omega (arith, p.0), p.1)) g h

  given : {A : Type 0} (a : A) (at : ℕ) → at ≤ length file → Says (Onward {A = A} at) (found a at)
  given a at l = (omega arith, l)

  module _ {A S : Type 0} (item : S → Parser A) (next : S → A → S) (h : (s : S) (at : ℕ) → Says (Past at) (item s file at)) where
    pub list_onward : (n : ℕ) (s : S) (at : ℕ) → at ≤ length file → Says (Onward at) (list_of item next n s file at)
    list_onward zero s at l = rw (list_none item next file s at) (given {A = List A} [] at l)
    list_onward (suc n) s at l =
        rw (list_more item next file n s at)
        (then at (item s file at) (λ a m. on (list_of item next n (next s a) file m) (λ rest e. found (a ∷ rest) e))
        (onward at (item s file at) (h s at))
        (λ a m k. then m (list_of item next n (next s a) file m) (λ rest e. found (a ∷ rest) e) (list_onward n (next s a) m k)
        (λ rest e j. given (a ∷ rest) e j)))

  pub component_past : (W driven at : ℕ) → Says (Past at) (component limits filled W driven file at)
  unfolding component
  component_past W driven at =
      then_past at (between limits 1 limits.states 3 file at) _ (between_past 1 limits.states 3 at)
      (λ s n l. then n (between limits 0 limits.inputs 3 file n) _ (onward n (between limits 0 limits.inputs 3 file n) (between_past 0 limits.inputs 3 n))
      (λ i n l. then n (signals limits W 0 i file n) _ (list_onward (signal limits W 0) (λ low v. v + 1) (signal_past W 0) i 0 n l)
      (λ inputs n l. then n (between limits 0 limits.outputs 3 file n) _ (onward n (between limits 0 limits.outputs 3 file n) (between_past 0 limits.outputs 3 n))
      (λ o n l. then n (signals limits W (with_all driven inputs) o file n) _
      (list_onward (signal limits W (with_all driven inputs)) (λ low v. v + 1) (signal_past W (with_all driven inputs)) o 0 n l)
      (λ outputs n l. then n (repeat (between limits 0 (2 ^ o - 1) 6) s file n) _
      (list_onward (λ (x : Done). between limits 0 (2 ^ o - 1) 6) (λ x a. x) (λ x. between_past 0 (2 ^ o - 1) 6) s done n l)
      (λ outs n l. then n (repeat (between limits 0 (2 ^ s - 1) 6) (s * 2 ^ i) file n) _
      (list_onward (λ (x : Done). between limits 0 (2 ^ s - 1) 6) (λ x a. x) (λ x. between_past 0 (2 ^ s - 1) 6) (s * 2 ^ i) done n l)
      (λ nexts n l. given {A = Component} (filled (record { states = s; inputs = inputs; outputs = outputs; outs = outs; nexts = nexts })) n l)))))))

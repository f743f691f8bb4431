-- The number of a refused file is one of 1 to 10, under any limits, and so is that of a refused question for a component's stretch of it
-- (document 01, Refused).
use mathlib.Core.Path.{◌≡◌, subst}
use mathlib.Core.Bool.{Bool, ◌&&◌, false, not, true}
use mathlib.Core.List.{List, [], ◌∷◌, map}
use lib.Dec.{T, leb, leb→le, ltb}
use lib.ListN.{drop, length}
use Prim.Native.Nat.{◌%◌, ◌+◌, suc, zero, ℕ}
use Rattle.words.specs.Sets.{has}
use Rattle.meaning.specs.Atoms.{Atom, on_signal}
use Rattle.meaning.specs.File.Grammar.{Limits, between, binary, component, components, driven_by, earlier, filled, finished, less_than, limits}
use Rattle.meaning.specs.File.Grammar.{named, node, number, operands, read_file, signal, signals, start, start_state, unary, whole, with_all}
use Rattle.meaning.specs.File.Number.{choose, groups, with_higher}
use Rattle.meaning.specs.File.Parser.{Got, Parser, ◌>>=◌, ◌>>◌, demand, done, fault, found, give, list_of, on, repeat}
use Rattle.meaning.specs.File.Promise.{Within}
use Rattle.meaning.specs.File.Stretches.{located, place, stretch_of}
use Rattle.meaning.specs.Nodes.{Node, atom, eg, eu, ex, neg, or, top}
use Rattle.meaning.proofs.Basic.Booleans.{and_l, and_r}

-- a number of a file's refusal
abbrev Number : ℕ → Type 0
Number r = T (leb 1 r && leb r 10)

-- if nothing was found, then the refusal has such a number
abbrev Faults : {A : Type 0} → Got A → Type 0
Faults (found a e) = Unit {0}
Faults (fault r) = Number r

fault_within : {A : Type 0} (g : Got A) → Faults g → (r : ℕ) → g ≡ fault r → Within 1 10 r
fault_within g h r q =
    let n : Number r = subst Faults q h in (leb→le 1 r (and_l (leb 1 r) (leb r 10) n), leb→le r 10 (and_r (leb 1 r) (leb r 10) n))

on_faults : {A B : Type 0} (g : Got A) (f : A → ℕ → Got B) → Faults g → ((a : A) (n : ℕ) → Faults (f a n)) → Faults (on g f)
on_faults (found a n) f h k = k a n
on_faults (fault r) f h k = h

choose_faults : {A : Type 0} (test : Bool) (g h : Got A) → Faults g → Faults h → Faults (choose test g h)
choose_faults true g h p q = p
choose_faults false g h p q = q

-- ---- parsers put together as in specs/File/Parser
record Refuses {A : Type 0} (p : Parser A) : Type 0 where
  faults : (file : List ℕ) (at : ℕ) → Faults (p file at)

faults_give : {A : Type 0} (a : A) → Refuses (give a)
faults_give a = record { faults = λ file at. tt }

faults_demand : (test : Bool) (r : ℕ) → Number r → Refuses (demand test r)
faults_demand true r h = record { faults = λ file at. tt }
faults_demand false r h = record { faults = λ file at. h }

faults_bind : {A B : Type 0} {p : Parser A} {f : A → Parser B} → Refuses p → ((a : A) → Refuses (f a)) → Refuses (◌>>=◌ p f)
faults_bind {p = p} {f = f} h k =
    record { faults = λ file at. on_faults (p file at) (λ a n. f a file n) (h.faults file at) (λ a n. (k a).faults file n) }

faults_then : {A B : Type 0} {p : Parser A} {q : Parser B} → Refuses p → Refuses q → Refuses (◌>>◌ p q)
faults_then {q = q} h k = faults_bind {f = λ a. q} h (λ a. k)

faults_list : {A S : Type 0} (item : S → Parser A) (next : S → A → S) → ((s : S) → Refuses (item s)) → (k : ℕ) (s : S)
    → Refuses (list_of item next k s)
unfolding list_of
faults_list item next h zero s = faults_give []
faults_list item next h (suc k) s =
    faults_bind (h s) (λ a. faults_bind (faults_list item next h k (next s a)) (λ rest. faults_give (a ∷ rest)))

faults_repeat : {A : Type 0} {item : Parser A} → Refuses item → (k : ℕ) → Refuses (repeat item k)
faults_repeat {item = item} h k = faults_list (λ s. item) (λ s a. s) (λ s. h) k done

-- ---- numbers
higher_faults : (v : ℕ) (g : Got ℕ) → Faults g → Faults (with_higher v g)
higher_faults v (found zero e) h = tt
higher_faults v (found (suc w) e) h = tt
higher_faults v (fault r) h = h

groups_faults : (last more : ℕ) (bs : List ℕ) (at : ℕ) → Faults (groups last more bs at)
unfolding groups
groups_faults last more [] at = tt
groups_faults last zero (b ∷ bs) at = choose_faults (ltb last b) _ (found b (suc at)) tt tt
groups_faults last (suc more) (b ∷ bs) at =
    choose_faults (ltb b 128) (found b (suc at)) (with_higher (b % 128) (groups last more bs (suc at))) tt
    (higher_faults (b % 128) (groups last more bs (suc at)) (groups_faults last more bs (suc at)))

-- ---- the grammar
module _ (L : Limits) where
  faults_number : Refuses (number L)
  faults_number = record { faults = λ file at. groups_faults L.last_group L.groups_before (drop at file) at }

  -- a number that has to pass one test
  tested : (test : ℕ → Bool) (r : ℕ) → Number r
      → Refuses (λ file at. on (number L file at) (λ v n. on (demand (test v) r file n) (λ d n. found v n)))
  tested test r h = faults_bind faults_number (λ v. faults_then (faults_demand (test v) r h) (faults_give v))

  faults_between : (lo hi r : ℕ) → Number r → Refuses (between L lo hi r)
  unfolding between
  faults_between lo hi r h = tested (λ v. leb lo v && leb v hi) r h

  faults_less : (bound r : ℕ) → Number r → Refuses (less_than L bound r)
  unfolding less_than
  faults_less bound r h = tested (λ v. ltb v bound) r h

  faults_named : (W driven : ℕ) → Refuses (named L W driven)
  unfolding named
  faults_named W driven = tested (λ v. ltb v W && has driven v) _ tt

  faults_signal : (W taken low : ℕ) → Refuses (signal L W taken low)
  unfolding signal
  faults_signal W taken low =
      faults_bind faults_number (λ v. faults_then (faults_demand (leb low v && ltb v W) _ tt)
      (faults_then (faults_demand (not (has taken v)) _ tt) (faults_give v)))

  faults_signals : (W taken k : ℕ) → Refuses (signals L W taken k)
  faults_signals W taken k = faults_list (signal L W taken) (λ low v. v + 1) (faults_signal W taken) k 0

  faults_component : (W driven : ℕ) → Refuses (component L filled W driven)
  unfolding component
  faults_component W driven =
      faults_bind (faults_between _ _ _ tt) (λ s.
      faults_bind (faults_between _ _ _ tt) (λ i.
      faults_bind (faults_signals W 0 i) (λ inputs.
      faults_bind (faults_between _ _ _ tt) (λ o.
      faults_bind (faults_signals W (with_all driven inputs) o) (λ outputs.
      faults_bind (faults_repeat (faults_between _ _ _ tt) _) (λ outs.
      faults_bind (faults_repeat (faults_between _ _ _ tt) _) (λ nexts. faults_give _)))))))

  faults_components : (W k : ℕ) → Refuses (components L filled W k)
  faults_components W k = faults_list (component L filled W) (λ driven c. with_all driven c.outputs) (faults_component W) k 0

  faults_earlier : (k : ℕ) → Refuses (earlier L k)
  faults_earlier k = faults_less _ _ tt

  faults_unary : (f : ℕ → Node Atom) {operand : Parser ℕ} → Refuses operand → Refuses (unary L f operand)
  faults_unary f h = faults_bind h (λ a. faults_give (f a))

  faults_binary : (f : ℕ → ℕ → Node Atom) (k : ℕ) → Refuses (binary L f k)
  faults_binary f k = faults_bind (faults_earlier k) (λ a. faults_bind (faults_earlier k) (λ b. faults_give (f a b)))

  faults_operands : (W driven k kind : ℕ) → Refuses (operands L W driven k kind)
  faults_operands W driven k zero = faults_give top
  faults_operands W driven k (suc zero) = faults_unary (λ w. atom (on_signal w)) (faults_named W driven)
  faults_operands W driven k (suc (suc zero)) = faults_unary neg (faults_earlier k)
  faults_operands W driven k (suc (suc (suc zero))) = faults_binary or k
  faults_operands W driven k (suc (suc (suc (suc zero)))) = faults_unary ex (faults_earlier k)
  faults_operands W driven k (suc (suc (suc (suc (suc zero))))) = faults_unary eg (faults_earlier k)
  faults_operands W driven k (suc (suc (suc (suc (suc (suc zero)))))) = faults_binary eu k
  faults_operands W driven k (suc (suc (suc (suc (suc (suc (suc unknown))))))) = record { faults = λ file at. tt }

  faults_node : (W driven k : ℕ) → Refuses (node L W driven k)
  unfolding node
  faults_node W driven k = faults_bind faults_number (faults_operands W driven k)

  faults_start : (sizes : List ℕ) → Refuses (start L sizes)
  faults_start sizes = faults_list (start_state L sizes) (λ c v. c + 1) (λ c. faults_less _ _ tt) (length sizes) 0

  faults_finished : Refuses (finished L)
  faults_finished = record { faults = λ file at. (faults_demand (leb (length file) at) _ tt).faults file at }

  faults_whole : Refuses (whole L filled)
  unfolding whole
  faults_whole =
      faults_bind (faults_between _ _ _ tt) (λ n.
      faults_bind (faults_between _ _ _ tt) (λ W.
      faults_bind (faults_components W n) (λ cs.
      faults_bind (faults_between _ _ _ tt) (λ k.
      faults_bind (faults_list (node L W (driven_by 0 cs)) (λ k a. k + 1) (faults_node W (driven_by 0 cs)) k 0) (λ ns.
      faults_bind (faults_between _ _ _ tt) (λ m.
      faults_bind (faults_repeat (faults_start (map (λ c. c.states) cs)) m) (λ ss.
      faults_then faults_finished (faults_give _))))))))

  pub whole_faults : (file : List ℕ) (r : ℕ) → whole L filled file 0 ≡ fault r → Within 1 10 r
  whole_faults file r q = fault_within (whole L filled file 0) (faults_whole.faults file 0) r q

pub file_faults : (file : List ℕ) (r : ℕ) → read_file file ≡ fault r → Within 1 10 r
file_faults file r q = whole_faults limits file r q

-- ---- a component's stretch
faults_place : Refuses place
faults_place = record { faults = λ file at. tt }

faults_stretch : (c : ℕ) → Refuses (stretch_of c)
faults_stretch c =
    faults_bind (faults_between limits _ _ _ tt) (λ n.
    faults_bind (faults_between limits _ _ _ tt) (λ W.
    faults_bind (faults_components limits W c) (λ before.
    faults_bind faults_place (λ start.
    faults_then (faults_component limits W (driven_by 0 before)) (faults_bind faults_place (λ end. faults_give _))))))

pub located_faults : (file : List ℕ) (c r : ℕ) → located file c ≡ fault r → Within 1 10 r
located_faults file c r q =
    fault_within (located file c)
    (on_faults (read_file file) _ ((faults_whole limits).faults file 0)
    (λ k end. choose_faults (ltb c (length k.components)) (stretch_of c file 0) _ ((faults_stretch c).faults file 0) tt)) r q

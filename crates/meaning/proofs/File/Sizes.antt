-- How many bytes a good file has: as many as the numbers that it is made of, each in its shortest form (document 01, The instrument file).
use mathlib.Core.Path.{◌∙◌, ◌≡◌, ap, refl, subst, sym}
use mathlib.Core.Bool.{Bool, ◌&&◌, false, not, true}
use mathlib.Core.List.{List, [], ◌∷◌, map}
use lib.Dec.{T, leb, leb→le, lt→ltb, ltb, ltb→lt}
use lib.ListN.{drop, length, length-drop}
use native.Mathlib.Omega.{arith}
use Prim.Native.Nat.{◌%◌, ◌*◌, ◌+◌, ◌/◌, ◌<◌, ◌^◌, ◌≤◌, suc, zero, ℕ}
use Rattle.words.specs.Sets.{has}
use Rattle.meaning.specs.Atoms.{Atom, on_signal}
use Rattle.meaning.specs.File.Grammar.{Component, Contents, Limits, as_written, between, binary, component, driven_by, earlier, less_than}
use Rattle.meaning.specs.File.Grammar.{named, node, number, operands, signal, signals, start, start_state, unary, whole, with_all}
use Rattle.meaning.specs.File.Number.{choose, groups, with_higher}
use Rattle.meaning.specs.File.Parser.{Got, Parser, demand, done, fault, found, list_of, on, repeat}
use Rattle.meaning.specs.Nodes.{Node, atom, eg, eu, ex, neg, or, top}
use Rattle.meaning.proofs.Basic.Booleans.{is_false, is_true}
use Rattle.meaning.proofs.File.Lists.{Says, Told, found_says, list_more, list_none, says_map, told_found, told_map, told_on}

-- the bytes of a number, of which `more` may stand before the last
abbrev pub bytes : ℕ → ℕ → ℕ
bytes zero v = 1
bytes (suc more) v = choose (ltb v 128) 1 (suc (bytes more (v / 128)))

pub bytes_low : (more v : ℕ) → v < 128 → bytes more v ≡ 1
bytes_low zero v l = refl
bytes_low (suc more) v l = let e : ltb v 128 ≡ true = is_true (ltb v 128) (lt→ltb v 128 l) in rw e refl

pub bytes_high : (more v : ℕ) → 128 ≤ v → bytes (suc more) v ≡ suc (bytes more (v / 128))
bytes_high more v l = let e : ltb v 128 ≡ false = is_false (ltb v 128) (λ h. omega (arith, ltb→lt v 128 h)) in rw e refl

pub bytes_some : (more v : ℕ) → 0 < bytes more v
bytes_some zero v = omega arith
bytes_some (suc more) v = go (ltb v 128)
  where
    go : (t : Bool) → 0 < choose t 1 (suc (bytes more (v / 128)))
    go true = omega arith
    go false = omega arith

-- the sum over a list
abbrev pub total : {A : Type 0} → (A → ℕ) → List A → ℕ
total f [] = 0
total f (a ∷ as') = f a + total f as'

-- under limits: the bytes of a number, of a component, of a node with one byte for its kind, and of a file's contents
module _ (L : Limits) where
  abbrev pub number_bytes : ℕ → ℕ
  number_bytes v = bytes L.groups_before v

  abbrev pub numbers_bytes : List ℕ → ℕ
  numbers_bytes vs = total number_bytes vs

  abbrev pub component_size : Component → ℕ
  component_size c =
      number_bytes c.states + (number_bytes (length c.inputs) + numbers_bytes c.inputs)
      + (number_bytes (length c.outputs) + numbers_bytes c.outputs) + numbers_bytes c.outs + numbers_bytes c.nexts

  abbrev pub node_size : Node Atom → ℕ
  node_size top = 1
  node_size (atom (on_signal w)) = 1 + number_bytes w
  node_size (neg i) = 1 + number_bytes i
  node_size (or i j) = 1 + number_bytes i + number_bytes j
  node_size (ex i) = 1 + number_bytes i
  node_size (eg i) = 1 + number_bytes i
  node_size (eu i j) = 1 + number_bytes i + number_bytes j

  abbrev pub contents_size : Contents → ℕ
  contents_size c =
      (number_bytes (length c.components) + number_bytes c.signals + total component_size c.components)
      + (number_bytes (length c.nodes) + total node_size c.nodes) + (number_bytes (length c.starts) + total numbers_bytes c.starts)

-- a test reads nothing
told_demand : (file : List ℕ) (n : ℕ) (test : Bool) (r : ℕ) → Told (λ d m. T test × (m ≡ n)) (demand test r file n)
told_demand file n true r = record { told = (tt, refl) }
told_demand file n false r = record { told = tt }

module _ (file : List ℕ) where
  -- from the place `at` on, so many bytes of the file up to the place e
  pub record Takes (at size e : ℕ) : Type 0 where
    pub is : e ≡ at + size
    pub inside : e ≤ length file

  groups_take : (top' more : ℕ) (bs : List ℕ) (at : ℕ) → Says (λ v e. (e ≡ at + bytes more v) × (e ≤ at + length bs)) (groups top' more bs at)
  unfolding groups
  groups_take top' zero [] at = tt
  groups_take top' (suc more) [] at = tt
  groups_take top' zero (b ∷ bs) at = go (ltb top' b)
    where
      go : (t : Bool) → Says (λ v e. (e ≡ at + 1) × (e ≤ at + length (b ∷ bs))) (choose t (fault 2) (found b (suc at)))
      go true = tt
      go false = (omega arith, omega arith)
  groups_take top' (suc more) (b ∷ bs) at = go (ltb b 128) refl (groups top' more bs (suc at)) (groups_take top' more bs (suc at))
    where
      go : (t : Bool) → ltb b 128 ≡ t → (g : Got ℕ) → Says (λ v e. (e ≡ suc at + bytes more v) × (e ≤ suc at + length bs)) g
          → Says (λ v e. (e ≡ at + bytes (suc more) v) × (e ≤ at + length (b ∷ bs))) (choose t (found b (suc at)) (with_higher (b % 128) g))
      go true q g h = (omega (arith, bytes_low (suc more) b (ltb→lt b 128 (subst T (sym q) tt))), omega arith)
      go false q (found zero n) h = tt
      go false q (found (suc v) n) h =
          let d : (b % 128 + 128 * suc v) / 128 ≡ suc v = omega arith in
          let s : bytes (suc more) (b % 128 + 128 * suc v) ≡ suc (bytes more ((b % 128 + 128 * suc v) / 128)) =
          bytes_high more (b % 128 + 128 * suc v) (omega arith) in
          let s' : bytes (suc more) (b % 128 + 128 * suc v) ≡ suc (bytes more (suc v)) =
          subst (λ x. bytes (suc more) (b % 128 + 128 * suc v) ≡ suc (bytes more x)) d s in
          (omega (arith, h.0, s'), omega (arith, h.1))
      go false q (fault r) h = tt

  module _ (L : Limits) where
    number_takes : (at : ℕ) → Told (λ v e. Takes at (number_bytes L v) e) (number L file at)
    number_takes at =
        record {
          told =
              says_map (λ v e. (e ≡ at + number_bytes L v) × (e ≤ at + length (drop at file))) (λ v e. Takes at (number_bytes L v) e)
              (λ v e h. record { is = h.0; inside = omega (arith, h.0, h.1, bytes_some L.groups_before v, length-drop at file) })
              (number L file at) (groups_take L.last_group L.groups_before (drop at file) at);
        }

    -- a number that has to pass a test, and others after it
    tested : (at v n : ℕ) (test : Bool) (r : ℕ) → Takes at (number_bytes L v) n
        → Told (λ v e. Takes at (number_bytes L v) e) (on (demand test r file n) (λ d m. found v m))
    tested at v n test r h = told_on (told_demand file n test r) (λ d m k. told_found _ v m (subst (Takes at (number_bytes L v)) (sym k.1) h))

    between_takes : (lo hi r at : ℕ) → Told (λ v e. Takes at (number_bytes L v) e) (between L lo hi r file at)
    unfolding between
    between_takes lo hi r at = told_on (number_takes at) (λ v n h. tested at v n (leb lo v && leb v hi) r h)

    less_takes : (bound r at : ℕ) → Told (λ v e. Takes at (number_bytes L v) e) (less_than L bound r file at)
    unfolding less_than
    less_takes bound r at = told_on (number_takes at) (λ v n h. tested at v n (ltb v bound) r h)

    named_takes : (W driven at : ℕ) → Told (λ v e. Takes at (number_bytes L v) e) (named L W driven file at)
    unfolding named
    named_takes W driven at = told_on (number_takes at) (λ v n h. tested at v n (ltb v W && has driven v) _ h)

    signal_takes : (W taken low at : ℕ) → Told (λ v e. Takes at (number_bytes L v) e) (signal L W taken low file at)
    unfolding signal
    signal_takes W taken low at =
        told_on (number_takes at) (λ v n h. told_on (told_demand file n (leb low v && ltb v W) _)
        (λ d m k. tested at v m (not (has taken v)) _ (subst (Takes at (number_bytes L v)) (sym k.1) h)))

    -- so many items, each of its own size
    pub record ListTakes {A : Type 0} (size : A → ℕ) (k at : ℕ) (vs : List A) (e : ℕ) : Type 0 where
      pub long : length vs ≡ k
      pub items : Takes at (total size vs) e

    list_takes : {A S : Type 0} (item : S → Parser A) (next : S → A → S) (size : A → ℕ)
        → ((s : S) (at : ℕ) → at ≤ length file → Told (λ a e. Takes at (size a) e) (item s file at))
        → (k : ℕ) (s : S) (at : ℕ) → at ≤ length file → Told (λ vs e. ListTakes size k at vs e) (list_of item next k s file at)
    list_takes item next size h zero s at l =
        rw (list_none item next file s at) (told_found _ [] at (record { long = refl; items = record { is = omega arith; inside = l } }))
    list_takes item next size h (suc k) s at l =
        rw (list_more item next file k s at)
        (told_on (h s at l) (λ a n p. told_on (list_takes item next size h k (next s a) n p.inside) (λ rest e q. told_found _ (a ∷ rest) e
        (record {
          long = ap suc q.long;
          items = record { is = omega (arith, p.is, q.items.is); inside = q.items.inside };
        }))))

    -- ---- a component
    signals_take : (W taken k at : ℕ) → at ≤ length file → Told (λ vs e. ListTakes (number_bytes L) k at vs e) (signals L W taken k file at)
    signals_take W taken k at l =
        list_takes (signal L W taken) (λ low v. v + 1) (number_bytes L) (λ s at l. signal_takes W taken s at) k 0 at l

    words_take : (lo hi k at : ℕ) → at ≤ length file → Told (λ vs e. ListTakes (number_bytes L) k at vs e) (repeat (between L lo hi 6) k file at)
    words_take lo hi k at l = list_takes (λ s. between L lo hi 6) (λ s a. s) (number_bytes L) (λ s at l. between_takes lo hi 6 at) k done at l

    component_takes : (W driven at : ℕ) → Told (λ c e. Takes at (component_size L c) e) (component L as_written W driven file at)
    unfolding component
    component_takes W driven at =
        told_on (between_takes _ _ _ at) (λ s n hs.
        told_on (between_takes _ _ _ n) (λ i n hi.
        told_on (signals_take W _ i n hi.inside) (λ inputs n qi.
        told_on (between_takes _ _ _ n) (λ o n ho.
        told_on (signals_take W _ o n ho.inside) (λ outputs n qo.
        told_on (words_take _ _ s n qo.items.inside) (λ outs n qw.
        told_on (words_take _ _ (s * 2 ^ i) n qw.items.inside) (λ nexts n qn.
        told_found _ (record { states = s; inputs = inputs; outputs = outputs; outs = outs; nexts = nexts }) n
        (record {
          is =
              let a : number_bytes L (length inputs) ≡ number_bytes L i = ap (number_bytes L) qi.long in
              let b : number_bytes L (length outputs) ≡ number_bytes L o = ap (number_bytes L) qo.long in
              omega (arith, hs.is, hi.is, qi.items.is, ho.is, qo.items.is, qw.items.is, qn.items.is);
          inside = qn.items.inside;
        }))))))))

    -- ---- a node
    low : (v : ℕ) → v < 128 → number_bytes L v ≡ 1
    low v l = bytes_low L.groups_before v l

    module _ (W driven k at n : ℕ) where
      unary_takes : (f : ℕ → Node Atom) (operand : Parser ℕ) → ((a : ℕ) → node_size L (f a) ≡ 1 + number_bytes L a) → n ≡ at + 1
          → Told (λ v e. Takes n (number_bytes L v) e) (operand file n) → Told (λ m e. Takes at (node_size L m) e) (unary L f operand file n)
      unary_takes f operand s q h =
          told_on h (λ a e p. told_found _ (f a) e (record { is = omega (arith, p.is, s a); inside = p.inside }))

      binary_takes : (f : ℕ → ℕ → Node Atom) → ((a b : ℕ) → node_size L (f a b) ≡ 1 + number_bytes L a + number_bytes L b) → n ≡ at + 1
          → Told (λ m e. Takes at (node_size L m) e) (binary L f k file n)
      binary_takes f s q =
          told_on (less_takes k 7 n) (λ a e p. told_on (less_takes k 7 e) (λ b e p'. told_found _ (f a b) e
          (record { is = omega (arith, p.is, p'.is, s a b); inside = p'.inside })))

      operands_take : (kind : ℕ) → n ≤ length file → n ≡ at + number_bytes L kind
          → Told (λ m e. Takes at (node_size L m) e) (operands L W driven k kind file n)
      operands_take zero l q = told_found _ top n (record { is = omega (arith, low 0 (omega arith)); inside = l })
      operands_take (suc zero) l q = unary_takes (λ w. atom (on_signal w)) (named L W driven) (λ a. refl) (omega (arith, low 1 (omega arith))) (named_takes W driven n)
      operands_take (suc (suc zero)) l q = unary_takes neg (earlier L k) (λ a. refl) (omega (arith, low 2 (omega arith))) (less_takes k 7 n)
      operands_take (suc (suc (suc zero))) l q = binary_takes or (λ a b. refl) (omega (arith, low 3 (omega arith)))
      operands_take (suc (suc (suc (suc zero)))) l q =
          unary_takes ex (earlier L k) (λ a. refl) (omega (arith, low 4 (omega arith))) (less_takes k 7 n)
      operands_take (suc (suc (suc (suc (suc zero))))) l q =
          unary_takes eg (earlier L k) (λ a. refl) (omega (arith, low 5 (omega arith))) (less_takes k 7 n)
      operands_take (suc (suc (suc (suc (suc (suc zero)))))) l q = binary_takes eu (λ a b. refl) (omega (arith, low 6 (omega arith)))
      operands_take (suc (suc (suc (suc (suc (suc (suc unknown))))))) l q = record { told = tt }

    node_takes : (W driven k at : ℕ) → Told (λ m e. Takes at (node_size L m) e) (node L W driven k file at)
    unfolding node
    node_takes W driven k at = told_on (number_takes at) (λ kind n h. operands_take W driven k at n kind h.inside h.is)

    -- ---- a start
    start_takes : (sizes : List ℕ) (at : ℕ) → at ≤ length file → Told (λ v e. Takes at (numbers_bytes L v) e) (start L sizes file at)
    start_takes sizes at l =
        told_map (λ v e h. h.items)
        (list_takes (start_state L sizes) (λ c v. c + 1) (number_bytes L) (λ c at l. less_takes _ _ at) (length sizes) 0 at l)

    -- ---- the file
    whole_takes : Told (λ c e. (e ≡ contents_size L c) × (e ≡ length file)) (whole L as_written file 0)
    unfolding whole
    whole_takes =
        told_on (between_takes _ _ _ 0) (λ n e hn.
        told_on (between_takes _ _ _ e) (λ W e hW.
        told_on (list_takes (component L as_written W) (λ driven c. with_all driven c.outputs) (component_size L)
        (λ driven at l. component_takes W driven at) n 0 e hW.inside) (λ cs e qc.
        told_on (between_takes _ _ _ e) (λ k e hk.
        told_on (list_takes (node L W (driven_by 0 cs)) (λ k a. k + 1) (node_size L)
        (λ k at l. node_takes W (driven_by 0 cs) k at) k 0 e hk.inside) (λ ns e qn.
        told_on (between_takes _ _ _ e) (λ m e hm.
        told_on (list_takes (λ s. start L (map (λ c. c.states) cs)) (λ s a. s) (numbers_bytes L)
        (λ s at l. start_takes (map (λ c. c.states) cs) at l) m done e hm.inside) (λ ss e qs.
        told_on (told_demand file e (leb (length file) e) 10) (λ d e' h.
        told_found _ (record { signals = W; components = cs; nodes = ns; starts = ss; sets = [] }) e'
        (let a : number_bytes L (length cs) ≡ number_bytes L n = ap (number_bytes L) qc.long in
        let b : number_bytes L (length ns) ≡ number_bytes L k = ap (number_bytes L) qn.long in
        let c : number_bytes L (length ss) ≡ number_bytes L m = ap (number_bytes L) qs.long in
        let f : length file ≤ e = leb→le (length file) e h.0 in (
          omega (arith, h.1, hn.is, hW.is, qc.items.is, hk.is, qn.items.is, hm.is, qs.items.is),
          omega (arith, h.1, qs.items.inside),
        ))))))))))

-- a good file ends with its last number: it has the bytes of its contents, and no others
pub file_size : (L : Limits) (file : List ℕ) (c : Contents) (e : ℕ) → whole L as_written file 0 ≡ found c e
    → (e ≡ length file) × (length file ≡ contents_size L c)
file_size L file c e q =
    let h = found_says (λ c e. (e ≡ contents_size L c) × (e ≡ length file)) (whole L as_written file 0) (whole_takes file L).told c e q in
    (h.1, sym h.1 ∙ h.0)

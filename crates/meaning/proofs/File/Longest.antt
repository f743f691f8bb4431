-- No good file is longer than its limits allow: each number by its own limit, the outputs of all components together at most the signals, the
-- first node without an operand (document 01, The instrument file).
use mathlib.Core.Path.{◌∙◌, ◌≡◌, ap, refl, subst, sym}
use mathlib.Core.Logic.{inl, inr}
use mathlib.Core.Bool.{Bool, false, true}
use mathlib.Core.List.{List, [], ◌∷◌, map}
use lib.Dec.{T}
use lib.ListN.{get_or, length, length-map}
use lib.Pow.{pow-add, pow_mono}
use native.Mathlib.Decide.{dec_lt}
use native.Mathlib.Nat.{mul-le-mul, mul-le-mul_left, mul-le-mul_right}
use native.Mathlib.Omega.{arith}
use Prim.Native.Nat.{◌*◌, ◌+◌, ◌-◌, ◌/◌, ◌<◌, ◌^◌, ◌≤◌, max, suc, zero, ℕ}
use Rattle.words.proofs.Members.{has_insert, has_none, insert_in, insert_out}
use Rattle.words.specs.Sets.{has, insert}
use Rattle.meaning.specs.Atoms.{Atom, on_signal}
use Rattle.meaning.specs.File.Grammar.{Component, Contents, Limits, as_written, filled, filled_contents, filled_from, filled_set, limits, read_file, whole, with_all}
use Rattle.meaning.specs.File.Parser.{Got, fault, found}
use Rattle.meaning.specs.File.Promise.{Promised, PromisedComponent, Signals, component_at, longest_file, no_component}
use Rattle.meaning.specs.Nodes.{Earlier, Node, Operand, atom, eg, eu, ex, neg, node_at, of_eg, of_eu_l, of_eu_r, of_ex, of_neg}
use Rattle.meaning.specs.Nodes.{of_or_l, of_or_r, or, top}
use Rattle.meaning.specs.Tests.{All, listed}
use Rattle.meaning.proofs.Basic.Bounded.{last_or}
use Rattle.meaning.proofs.Basic.Lists.{all_map, listed_at}
use Rattle.meaning.proofs.Basic.Rounds.{one, one_le, one_mono, sum_le, sum_mono, sum_below}
use Rattle.meaning.proofs.File.Accepted.{promised_at}
use Rattle.meaning.proofs.File.Driven.{with_all_out}
use Rattle.meaning.proofs.File.Filled.{made_of, whole_filled}
use Rattle.meaning.proofs.File.Members.{all_member, listed_first, listed_others}
use Rattle.meaning.proofs.File.Parsers.{reads_found}
use Rattle.meaning.proofs.File.Reads.{reads_whole}
use Rattle.meaning.proofs.File.Sizes.{bytes, bytes_high, bytes_low, bytes_some, component_size, contents_size, file_size, node_size}
use Rattle.meaning.proofs.File.Sizes.{number_bytes, numbers_bytes, total}

-- ---- numbers: a smaller one has no more bytes, and one of so many bits at most one for each seven
pub bytes_mono : (more v w : ℕ) → v ≤ w → bytes more v ≤ bytes more w
bytes_mono zero v w l = omega arith
bytes_mono (suc more) v w l =
    elim (dec_lt v 128) [
      | yes h ↦ omega (arith, bytes_low (suc more) v h, bytes_some (suc more) w)
      | no h ↦
          let d : v / 128 ≤ w / 128 = omega arith in
          omega (arith, bytes_high more v (omega arith), bytes_high more w (omega arith), bytes_mono more (v / 128) (w / 128) d)
    ]

-- the bytes beyond the first that so many bits need
abbrev pub further : ℕ → ℕ
further bits = (bits - 1) / 7

pub bytes_bits : (more v bits : ℕ) → v < 2 ^ bits → bytes more v ≤ 1 + further bits
bytes_bits zero v bits l = omega arith
bytes_bits (suc more) v bits l =
    elim (dec_lt v 128) [
      | yes h ↦ omega (arith, bytes_low (suc more) v h)
      | no h ↦
          let big : 8 ≤ bits = many bits l (omega arith) in
          let e : 2 ^ bits ≡ 2 ^ (bits - 7) * 128 = split bits (omega arith) in
          let i = bytes_bits more (v / 128) (bits - 7) (omega (arith, e)) in
          omega (arith, bytes_high more v (omega arith), i)
    ]
  where
    few : (bits : ℕ) → bits ≤ 7 → v < 2 ^ bits → 128 ≤ v → ⊥
    few bits s l h = let m : 2 ^ bits ≤ 128 = pow_mono {j = 7} s in omega arith

    many : (bits : ℕ) → v < 2 ^ bits → 128 ≤ v → 8 ≤ bits
    many bits l h = elim (dec_lt bits 8) [ yes k ↦ absurd (few bits (omega arith) l h) | no k ↦ omega arith ]

    split : (bits : ℕ) → 7 ≤ bits → 2 ^ bits ≡ 2 ^ (bits - 7) * 128
    split bits k = let e : bits ≡ (bits - 7) + 7 = omega arith in ap (λ b. 2 ^ b) e ∙ pow-add 2 (bits - 7) 7

total_le : {A : Type 0} (f : A → ℕ) (m : ℕ) (vs : List A) → All (λ v. f v ≤ m) vs → total f vs ≤ length vs * m
total_le f m [] h = omega arith
total_le f m (v ∷ vs) h = omega (arith, h.0, total_le f m vs h.1)

all_from : {A : Type 0} (P : A → Type 0) (d : A) (xs : List A) → ((j : ℕ) → j < length xs → P (get_or xs j d)) → All P xs
all_from P d [] h = tt
all_from P d (x ∷ xs) h = (h 0 (omega arith), all_from P d xs (λ j l. h (suc j) (omega arith)))

-- ---- the outputs of all components are different signals
abbrev pub output_count : List Component → ℕ
output_count cs = total (λ c. length c.outputs) cs

module _ (W : ℕ) where
  -- how many signals are in a set
  abbrev members : ℕ → ℕ
  members set = sum_below W (λ w. one (has set w))

  insert_more : (n set v : ℕ) → v < n → (T (has set v) → ⊥) → suc (sum_below n (λ w. one (has set w))) ≤ sum_below n (λ w. one (has (insert set v) w))
  insert_more zero set v l free = absurd (omega arith)
  insert_more (suc n) set v l free =
      elim (last_or v n l) [
        | inl e ↦ subst (λ n. suc (sum_below (suc n) (λ w. one (has set w))) ≤ sum_below (suc n) (λ w. one (has (insert set v) w))) e
            (last v (has set v) (has (insert set v) v) free (has_insert set v)
            (sum_mono v _ _ (λ w k. one_mono (has set w) (has (insert set v) w) (insert_in set v w))))
        | inr k ↦ omega (arith, insert_more n set v k free, one_mono (has set n) (has (insert set v) n) (insert_in set v n))
      ]
    where
      last : (v : ℕ) (a b : Bool) → (T a → ⊥) → T b → {x y : ℕ} → x ≤ y → suc (one a + x) ≤ one b + y
      last v true b f t h = absurd (f tt)
      last v false true f t h = omega arith
      last v false false f t h = absurd t

  -- an ascending list of signals that are not in the set
  list_more : (set : ℕ) (vs : List ℕ) → Signals W vs → ((w : ℕ) → T (listed vs w) → T (has set w) → ⊥)
      → members set + length vs ≤ members (with_all set vs)
  unfolding with_all
  list_more set [] h free = omega arith
  list_more set (v ∷ vs) h free =
      omega (arith, insert_more W set v h.below.0 (free v (listed_first v vs)), list_more (insert set v) vs rest free')
    where
      rest : Signals W vs
      rest = record { ascending = λ i j l k. h.ascending (suc i) (suc j) (omega arith) (omega arith); below = h.below.1 }

      free' : (w : ℕ) → T (listed vs w) → T (has (insert set v) w) → ⊥
      free' w l m =
          elim (insert_out set v w m) [
            | inl a ↦ free w (listed_others v vs w l) a
            | inr e ↦ let (j, k, q) = listed_at vs w l in omega (arith, e, q, h.ascending 0 (suc j) (omega arith) (omega (arith, k)))
          ]

  driven_more : (set : ℕ) (cs : List Component) → All (λ c. Signals W c.outputs) cs
      → ((i : ℕ) → i < length cs → (w : ℕ) → T (listed (get_or cs i no_component).outputs w) → T (has set w) → ⊥)
      → ((i j : ℕ) → i < j → j < length cs → (w : ℕ) → T (listed (get_or cs i no_component).outputs w)
      → T (listed (get_or cs j no_component).outputs w) → ⊥) → members set + output_count cs ≤ W
  driven_more set [] h free apart = omega (arith, sum_le W 1 (λ w. one (has set w)) (λ w l. one_le (has set w)))
  driven_more set (c ∷ cs) h free apart =
      omega (
        arith,
        list_more set c.outputs h.0 (free 0 (omega arith)),
        driven_more (with_all set c.outputs) cs h.1 free' (λ i j l k. apart (suc i) (suc j) (omega arith) (omega arith)),
      )
    where
      free' : (i : ℕ) → i < length cs → (w : ℕ) → T (listed (get_or cs i no_component).outputs w) → T (has (with_all set c.outputs) w) → ⊥
      free' i l w o m =
          elim (with_all_out set c.outputs w m) [
            | inl a ↦ free (suc i) (omega arith) w o a
            | inr q ↦ apart 0 (suc i) (omega arith) (omega arith) w q o
          ]

-- so there are no more of them than signals
pub outputs_fit : (L : Limits) (c : Contents) → Promised L c → output_count c.components ≤ c.signals
outputs_fit L c p =
    omega (
      arith,
      driven_more c.signals 0 c.components (all_map (λ t q. q.outputs) c.components p.components)
          (λ i l w o h. subst T (has_none w) h) p.apart,
    )

module _ (L : Limits) where
  abbrev num : ℕ → ℕ
  num v = number_bytes L v

  num_le : (v w : ℕ) → v ≤ w → num v ≤ num w
  num_le v w l = bytes_mono L.groups_before v w l

  -- ---- a component: what each may have, and what the outputs bring
  abbrev pub longest_sets : ℕ
  longest_sets = L.states * 2 ^ L.inputs * num (2 ^ L.states - 1)

  abbrev pub longest_component : ℕ
  longest_component = num L.states + (num L.inputs + L.inputs * num L.signals) + num L.outputs + L.states + longest_sets

  abbrev pub output_bytes : ℕ → ℕ
  output_bytes outputs = outputs * num L.signals + L.states * further outputs

  module _ (W : ℕ) (small : W ≤ L.signals) (c : Component) (p : PromisedComponent L W c) where
    signals_le : (vs : List ℕ) → Signals W vs → numbers_bytes L vs ≤ length vs * num L.signals
    signals_le vs h = total_le (number_bytes L) (num L.signals) vs (all_map (λ v l. num_le v L.signals (omega arith)) vs h.below)

    inputs_le : numbers_bytes L c.inputs ≤ L.inputs * num L.signals
    inputs_le = omega (arith, signals_le c.inputs p.inputs, mul-le-mul_right (num L.signals) p.input_count)

    outs_le : numbers_bytes L c.outs ≤ L.states + L.states * further (length c.outputs)
    outs_le =
        let a = total_le (number_bytes L) (1 + further (length c.outputs)) c.outs
        (all_map (λ v l. bytes_bits L.groups_before v (length c.outputs) l) c.outs p.outs) in
        let b : length c.outs * (1 + further (length c.outputs)) ≤ L.states * (1 + further (length c.outputs))
        = mul-le-mul_right (1 + further (length c.outputs)) (omega (arith, p.out_count, p.states.1)) in
        omega (arith, a, b)

    sets_le : numbers_bytes L c.nexts ≤ longest_sets
    sets_le =
        let m : 2 ^ c.states ≤ 2 ^ L.states = pow_mono p.states.1 in
        let a = total_le (number_bytes L) (num (2 ^ L.states - 1)) c.nexts
        (all_map (λ v h. num_le v (2 ^ L.states - 1) (omega (arith, h.1, m))) c.nexts p.nexts) in
        let n : length c.nexts ≤ L.states * 2 ^ L.inputs
        = subst (λ x. x ≤ L.states * 2 ^ L.inputs) (sym p.next_count) (mul-le-mul p.states.1 (pow_mono p.input_count)) in
        omega (arith, a, mul-le-mul_right (num (2 ^ L.states - 1)) n)

    component_le : component_size L c ≤ longest_component + output_bytes (length c.outputs)
    component_le =
        omega (
          arith,
          num_le c.states L.states p.states.1,
          num_le (length c.inputs) L.inputs p.input_count,
          inputs_le,
          num_le (length c.outputs) L.outputs p.output_count,
          signals_le c.outputs p.outputs,
          outs_le,
          sets_le,
        )

  -- bytes of two components' outputs, of the outputs together
  together : (a b : ℕ) → output_bytes a + output_bytes b ≤ output_bytes (a + b)
  together a b = let h : further a + further b ≤ further (a + b) = omega arith in omega (arith, mul-le-mul_left L.states h)

  components_le : (W : ℕ) → W ≤ L.signals → (cs : List Component) → All (PromisedComponent L W) cs
      → total (component_size L) cs ≤ length cs * longest_component + output_bytes (output_count cs)
  components_le W l [] h = omega arith
  components_le W l (c ∷ cs) h =
      omega (arith, component_le W l c h.0, components_le W l cs h.1, together (length c.outputs) (output_count cs))

  -- ---- a node: its kind, then two nodes or a signal; the first can only name a signal
  abbrev pub longest_operands : ℕ
  longest_operands = max (2 * num L.nodes) (num L.signals)

  module _ (k : ℕ) (small : k ≤ L.nodes) where
    node_le : (m : Node Atom) → ((i : ℕ) → Operand i m → i < k) → ((w : ℕ) → m ≡ atom (on_signal w) → w < L.signals) → node_size L m ≤ 1 + longest_operands
    node_le top e n = omega arith
    node_le (atom (on_signal w)) e n = let l = n w refl in omega (arith, num_le w L.signals (omega arith))
    node_le (neg i) e n = let l = e i of_neg in omega (arith, num_le i L.nodes (omega arith))
    node_le (or i j) e n =
        let l = e i of_or_l in let r = e j of_or_r in omega (arith, num_le i L.nodes (omega arith), num_le j L.nodes (omega arith))
    node_le (ex i) e n = let l = e i of_ex in omega (arith, num_le i L.nodes (omega arith))
    node_le (eg i) e n = let l = e i of_eg in omega (arith, num_le i L.nodes (omega arith))
    node_le (eu i j) e n =
        let l = e i of_eu_l in let r = e j of_eu_r in omega (arith, num_le i L.nodes (omega arith), num_le j L.nodes (omega arith))

  first_le : (m : Node Atom) → ((i : ℕ) → Operand i m → i < 0) → ((w : ℕ) → m ≡ atom (on_signal w) → w < L.signals) → node_size L m ≤ 1 + num L.signals
  first_le top e n = omega arith
  first_le (atom (on_signal w)) e n = let l = n w refl in omega (arith, num_le w L.signals (omega arith))
  first_le (neg i) e n = absurd (omega (arith, e i of_neg))
  first_le (or i j) e n = absurd (omega (arith, e i of_or_l))
  first_le (ex i) e n = absurd (omega (arith, e i of_ex))
  first_le (eg i) e n = absurd (omega (arith, e i of_eg))
  first_le (eu i j) e n = absurd (omega (arith, e i of_eu_l))

  abbrev pub longest_nodes : ℕ
  longest_nodes = 1 + num L.signals + (L.nodes - 1) * (1 + longest_operands)

  nodes_le : (ns : List (Node Atom)) → 1 ≤ length ns → length ns ≤ L.nodes → Earlier ns → ((k w : ℕ) → node_at ns k ≡ atom (on_signal w) → w < L.signals)
      → total (node_size L) ns ≤ longest_nodes
  nodes_le [] l k e n = absurd (omega arith)
  nodes_le (m ∷ ms) l k e n =
      let a = first_le m (e 0) (n 0) in
      let b = total_le (node_size L) (1 + longest_operands) ms
      (all_from (λ m. node_size L m ≤ 1 + longest_operands) top ms (λ j h. node_le (suc j) (omega arith) (node_at ms j) (e (suc j)) (n (suc j)))) in
      omega (arith, a, b, mul-le-mul_right {m = length ms} {n = L.nodes - 1} (1 + longest_operands) (omega arith))

  -- ---- starts and the file
  abbrev pub longest : ℕ
  longest =
      (num L.components + num L.signals + (L.components * longest_component + output_bytes L.signals))
      + (num L.nodes + longest_nodes) + (num L.starts + L.starts * (L.components * num L.states))

  module _ (c : Contents) (p : Promised L c) where
    output_bytes_le : (a b : ℕ) → a ≤ b → output_bytes a ≤ output_bytes b
    output_bytes_le a b l =
        let h : further a ≤ further b = omega arith in omega (arith, mul-le-mul_left L.states h, mul-le-mul_right (num L.signals) l)

    all_components_le : total (component_size L) c.components ≤ L.components * longest_component + output_bytes L.signals
    all_components_le =
        let f = outputs_fit L c p in
        omega (
          arith,
          components_le c.signals p.signal_count c.components p.components,
          mul-le-mul_right longest_component p.component_count.1,
          output_bytes_le (output_count c.components) L.signals (omega (arith, f, p.signal_count)),
        )

    -- a signal that a node names is one of the file's
    named_below : (k w : ℕ) → node_at c.nodes k ≡ atom (on_signal w) → w < L.signals
    named_below k w e =
        let (i, l, o) = p.named k w e in
        let q = promised_at L c p i l in
        let s : w < c.signals = all_member (λ v. v < c.signals) (component_at c i).outputs q.outputs.below w o in
        omega (arith, s, p.signal_count)

    start_le : (start : List ℕ)
        → (length start ≡ length c.components) × ((i : ℕ) → i < length c.components → get_or start i 0 < (component_at c i).states)
        → numbers_bytes L start ≤ L.components * num L.states
    start_le start h =
        let a = total_le (number_bytes L) (num L.states) start (all_from (λ v. num v ≤ num L.states) 0 start each) in
        omega (arith, a, mul-le-mul_right {m = length start} {n = L.components} (num L.states) (omega (arith, h.0, p.component_count.1)))
      where
        each : (j : ℕ) → j < length start → num (get_or start j 0) ≤ num L.states
        each j l =
            let k : j < length c.components = omega (arith, h.0) in
            let q = promised_at L c p j k in
            num_le (get_or start j 0) L.states (omega (arith, h.1 j k, q.states.1))

    starts_le : total (numbers_bytes L) c.starts ≤ L.starts * (L.components * num L.states)
    starts_le =
        let a = total_le (numbers_bytes L) (L.components * num L.states) c.starts (all_map start_le c.starts p.starts) in
        omega (arith, a, mul-le-mul_right (L.components * num L.states) p.start_count)

    pub contents_le : contents_size L c ≤ longest
    contents_le =
        omega (
          arith,
          all_components_le,
          nodes_le c.nodes p.node_count.0 p.node_count.1 p.earlier named_below,
          starts_le,
          num_le (length c.components) L.components p.component_count.1,
          num_le c.signals L.signals p.signal_count,
          num_le (length c.nodes) L.nodes p.node_count.1,
          num_le (length c.starts) L.starts p.start_count,
        )

-- an empty set has no more bytes than what it is filled with
module _ (L : Limits) where
  set_size : (x v : ℕ) → number_bytes L v ≤ number_bytes L (filled_set x v)
  set_size x zero = num_le L 0 (2 ^ x) (omega arith)
  set_size x (suc v) = omega arith

  sets_size : (i p : ℕ) (vs : List ℕ) → numbers_bytes L vs ≤ numbers_bytes L (filled_from i p vs)
  sets_size i p [] = omega arith
  sets_size i p (v ∷ vs) = omega (arith, set_size (p / 2 ^ i) v, sets_size i (suc p) vs)

  tables_size : (cs : List Component) → total (component_size L) cs ≤ total (component_size L) (map filled cs)
  tables_size [] = omega arith
  tables_size (c ∷ cs) = omega (arith, sets_size (length c.inputs) 0 c.nexts, tables_size cs)

  size_filled : (c : Contents) → contents_size L c ≤ contents_size L (filled_contents c)
  size_filled c = omega (arith, tables_size c.components, ap (number_bytes L) (length-map c.components filled))

-- under any limits, a good file is at most so long
module _ (L : Limits) (file : List ℕ) (c : Contents) (e : ℕ) (q : whole L filled file 0 ≡ found c e) where
  written : (w : Contents) × (whole L as_written file 0 ≡ found w e) × (filled_contents w ≡ c)
  written = go (whole L as_written file 0) refl (sym (whole_filled L file 0) ∙ q)
    where
      go : (g : Got Contents) → whole L as_written file 0 ≡ g → made_of filled_contents g ≡ found c e
          → (w : Contents) × (whole L as_written file 0 ≡ found w e) × (filled_contents w ≡ c)
      go (found w h) p s = (w, p ∙ cc, cc)
      go (fault r) p s = let z : ◌≡◌ {A = ℕ} 0 1 = cc in let y : ⊥ = omega arith in absurd y

  pub file_at_most : (e ≡ length file) × (length file ≤ longest L)
  file_at_most =
      let (w, p, s) = written in
      let h = file_size L file w e p in
      let k : contents_size L c ≤ longest L = contents_le L c (reads_found (reads_whole L) file 0 c e q).0 in
      (h.0, omega (arith, h.1, size_filled L w, subst (λ c. contents_size L c ≤ longest L) (sym s) k))

-- document 01's: 41,651 bytes
pub longest_is : longest limits ≡ longest_file
longest_is = refl

pub no_longer : (file : List ℕ) (c : Contents) (e : ℕ) → read_file file ≡ found c e → (e ≡ length file) × (length file ≤ longest_file)
no_longer file c e q =
    let h = file_at_most limits file c e q in
    (h.0, subst (λ n. length file ≤ n) longest_is h.1)

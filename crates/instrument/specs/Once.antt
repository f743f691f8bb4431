-- An instrument describes the contents of at most one file, and does so in one way: so a struct may hold that it does (src/delivery.rt). The
-- lemmas stand here since that struct names the last one, and what a struct names may not stand on its crate's proofs.
use mathlib.Core.Path.{◌≡◌, refl, sym, subst, ap, ap₂, ◌∙◌}
use mathlib.Core.HLevel.{Σ_prop_path, Unit-prop, ×_prop}
use mathlib.Core.List.{List, [], ◌∷◌, map, is_set as List-set}
use mathlib.Core.Option.{some, some-injective}
use lib.Dec.{T, T_prop}
use lib.ListN.{length, get_or, replicate, length-map, length-replicate, get_or-map}
use lib.Seq.{sets, length-sets, ext_get_or}
use lib.Pow.{pow_mono}
use native.Mathlib.Bridge.{le_prop}
use native.Mathlib.Decide.{dec_lt}
use native.Mathlib.Nat.{ℕ_set, mul-add, mul-suc, mul_comm, mul-le-mul, mul-le-mul_left}
use native.Mathlib.Omega.{arith}
use Prim.Native.Nat.{ℕ, zero, suc, ◌+◌, ◌*◌, ◌^◌, ◌≤◌, ◌<◌}
use Rattle.meaning.specs.Tests.{All, listed}
use Rattle.meaning.specs.Atoms.{Atom, on_signal}
use Rattle.meaning.specs.Nodes.{Node, top, atom, neg, or, ex, eg, eu, Earlier}
use Rattle.meaning.specs.File.Grammar.{Component, Contents, Limits, limits}
use Rattle.meaning.specs.File.Promise.{Within, Promised, PromisedComponent, component_at, no_component}
use Rattle.meaning.proofs.File.Accepted.{promised_at}
use Rattle.meaning.proofs.File.Members.{all_at}
use Rattle.loops.proofs.Stored.{sets_before, sets_in, filled_at}
use Rattle.instrument.specs.declared.Instrument.{Instrument}
use Rattle.instrument.specs.Layout.{layout, node_of, row, rows, rows_of}
use Rattle.instrument.specs.ByKind.{stored_node}
use Rattle.instrument.specs.Described.{Describes}

-- a fact of every member is one fact
all_once : {X : Type 0} (P : X → Type 0) → ((x : X) → IsProp (P x)) → (xs : List X) → IsProp (All P xs)
all_once P h [] = Unit-prop
all_once P h (x ∷ xs) = ×_prop (h x) (all_once P h xs)

-- at most one component drives a signal
abbrev Driver : Contents → ℕ → Type 0
Driver c w = (i : ℕ) × (i < length c.components) × T (listed (component_at c i).outputs w)

driver_once : (L : Limits) (c : Contents) → Promised L c → (w : ℕ) → IsProp (Driver c w)
driver_once L c p w a b =
    ap {A = (i : ℕ) × Here i} (λ (d : (i : ℕ) × Here i). (d.0, d.1.0, d.1.1))
    (Σ_prop_path {B = Here} (λ i. hlevel (le_prop, T_prop)) {u = (a.0, (a.1, a.2))} {v = (b.0, (b.1, b.2))} same)
  where
    Here : ℕ → Type 0
    Here i = (i < length c.components) × T (listed (component_at c i).outputs w)

    same : a.0 ≡ b.0
    same =
        elim (dec_lt a.0 b.0) [
          | yes l ↦ absurd (p.apart a.0 b.0 l b.1 w a.2 b.2)
          | no n ↦
              elim (dec_lt b.0 a.0) [ yes l ↦ absurd (p.apart b.0 a.0 l a.1 w b.2 a.2) | no m ↦ omega arith ]
        ]

-- two facts of Promised
abbrev Apart : Contents → Type 0
Apart c =
    (i j : ℕ) → i < j → j < length c.components → (w : ℕ) → T (listed (component_at c i).outputs w)
    → T (listed (component_at c j).outputs w) → ⊥

abbrev Start : Contents → List ℕ → Type 0
Start c s = (length s ≡ length c.components) × ((i : ℕ) → i < length c.components → get_or s i 0 < (component_at c i).states)

component_once : (L : Limits) (W : ℕ) (c : Component) → IsProp (PromisedComponent L W c)
component_once L W c = hlevel (le_prop, ℕ_set, T_prop, all_once)

promised_once : (L : Limits) (c : Contents) → IsProp (Promised L c)
promised_once L c p q =
    λ i.
    record {
      component_count = within p.component_count q.component_count i;
      signal_count = le_prop p.signal_count q.signal_count i;
      components = all_once (PromisedComponent L c.signals) (component_once L c.signals) c.components p.components q.components i;
      apart = apart p.apart q.apart i;
      node_count = within p.node_count q.node_count i;
      earlier = earlier p.earlier q.earlier i;
      named = λ k w e. driver_once L c p w (p.named k w e) (q.named k w e) i;
      start_count = le_prop p.start_count q.start_count i;
      starts = starts p.starts q.starts i;
      bare = bare p.bare q.bare i;
    }
  where
    within : {lo hi v : ℕ} → IsProp (Within lo hi v)
    within = ×_prop le_prop le_prop

    apart : IsProp (Apart c)
    apart = hlevel

    earlier : IsProp (Earlier c.nodes)
    earlier = hlevel le_prop

    starts : IsProp (All (Start c) c.starts)
    starts = all_once (Start c) (λ s. hlevel (le_prop, ℕ_set)) c.starts

    bare : IsProp (c.sets ≡ [])
    bare = hlevel (ℕ_set, List-set)

instrument_set : IsSet Instrument
instrument_set = hlevel (ℕ_set, List-set)

describes_once : (t : Instrument) (c : Contents) → IsProp (Describes t c)
describes_once t c p q =
    λ i.
    record {
      same = instrument_set t (layout c) p.same q.same i;
      promised = promised_once limits c p.promised q.promised i;
    }

-- a stored node is the node
pub node_in : (m : Node Atom) → stored_node (node_of m) ≡ some m
node_in top = refl
node_in (atom (on_signal w)) = refl
node_in (neg i) = refl
node_in (or i j) = refl
node_in (ex i) = refl
node_in (eg i) = refl
node_in (eu i j) = refl

node_same : (m n : Node Atom) → node_of m ≡ node_of n → m ≡ n
node_same m n e = some-injective m n (sym (node_in m) ∙ ap stored_node e ∙ node_in n)

-- a number of each component in an array for n components
pub numbers_at : (cs : List Component) (n : ℕ) → length cs ≤ n → (f : Component → ℕ) → f no_component ≡ 0 → (i : ℕ)
    → get_or (row n (map f cs)) i 0 ≡ f (get_or cs i no_component)
numbers_at cs n few f z i =
    filled_at 0 n (map f cs) (rw length-map few) i
    ∙ subst (λ d. get_or (map f cs) i d ≡ f (get_or cs i no_component)) z (get_or-map f cs i no_component)

-- of lists stored one to a stretch, those past a place leave it as it was, and list k stands in stretch k
pub next_row : (width i : ℕ) → width * (i + 1) ≡ width * i + width
next_row width i = let e : i + 1 ≡ suc i = omega arith in rw e (mul-suc width i)

pub rows_before : (width : ℕ) (ls : List (List ℕ)) (i : ℕ) (l : List ℕ) (p : ℕ) → p < width * i
    → get_or (rows width i l ls) p 0 ≡ get_or l p 0
rows_before width [] i l p h = refl
rows_before width (vs ∷ ls) i l p h =
    rows_before width ls (i + 1) (sets l (width * i) vs) p (omega (arith, next_row width i)) ∙ sets_before 0 vs l (width * i) p h

module _ (width : ℕ) (d : List ℕ) where
  rows_at : (ls : List (List ℕ)) (i : ℕ) (l : List ℕ) (k j : ℕ) → k < length ls → length (get_or ls k d) ≤ width
      → j < length (get_or ls k d) → width * (i + length ls) ≤ length l
      → get_or (rows width i l ls) (width * (i + k) + j) 0 ≡ get_or (get_or ls k d) j 0
  rows_at [] i l k j h w m r = absurd (omega arith)
  rows_at (vs ∷ ls) i l zero j h w m r =
      let e : width * (i + 0) + j ≡ width * i + j = omega (arith, mul-add width i 0) in
      rw e
      (rows_before width ls (i + 1) (sets l (width * i) vs) (width * i + j) (omega (arith, next_row width i))
      ∙ sets_in 0 vs l (width * i) j (omega (arith, mul-add width i (length (vs ∷ ls)), mul-suc width (length ls))) m)
  rows_at (vs ∷ ls) i l (suc k) j h w m r =
      let e : i + suc k ≡ (i + 1) + k = omega arith in
      let s : i + suc (length ls) ≡ (i + 1) + length ls = omega arith in
      rw e (rows_at ls (i + 1) (sets l (width * i) vs) k j (omega arith) w m (rw (← s, length-sets) r))

  -- lists k of two such arrays are the same, if the arrays and the lengths of the lists are
  module _ (n k : ℕ) where
    rows_of_at : (ls : List (List ℕ)) → length ls ≤ n → k < length ls → length (get_or ls k d) ≤ width → (j : ℕ)
        → j < length (get_or ls k d) → get_or (rows_of n width ls) (width * k + j) 0 ≡ get_or (get_or ls k d) j 0
    rows_of_at ls few h w j m =
        let e : 0 + k ≡ k = omega arith in
        let s : 0 + length ls ≤ n = omega arith in
        rw e at (rows_at ls 0 (replicate (n * width) 0) k j h w m (rw (length-replicate, mul_comm n width) (mul-le-mul_left width s)))

    list_same : (ls ms : List (List ℕ)) → length ls ≤ n → length ms ≤ n → k < length ls → k < length ms
        → length (get_or ls k d) ≤ width → length (get_or ls k d) ≡ length (get_or ms k d)
        → rows_of n width ls ≡ rows_of n width ms → get_or ls k d ≡ get_or ms k d
    list_same ls ms f g h m w e r =
        ext_get_or 0 (get_or ls k d) (get_or ms k d) e (λ j b.
        sym (rows_of_at ls f h w j b) ∙ ap (λ l. get_or l (width * k + j) 0) r ∙ rows_of_at ms g m (rw (← e) w) j (rw (← e) b))

-- the contents of two files that are one instrument; component i of both
module _ (c d : Contents) (p : Promised limits c) (q : Promised limits d) (e : layout c ≡ layout d) where
  module _ (i : ℕ) (l : i < length c.components) (m : i < length d.components) where
    abbrev a : Component
    a = component_at c i

    abbrev b : Component
    b = component_at d i

    number : (f : Component → ℕ) → f no_component ≡ 0
        → row limits.components (map f c.components) ≡ row limits.components (map f d.components) → f a ≡ f b
    number f z r =
        sym (numbers_at c.components limits.components p.component_count.1 f z i)
        ∙ ap (λ l. get_or l i 0) r
        ∙ numbers_at d.components limits.components q.component_count.1 f z i

    list : (width : ℕ) (f : Component → List ℕ) → length (f a) ≤ width → length (f a) ≡ length (f b)
        → rows_of limits.components width (map f c.components) ≡ rows_of limits.components width (map f d.components) → f a ≡ f b
    list width f w s r =
        let u : get_or (map f c.components) i (f no_component) ≡ f a = get_or-map f c.components i no_component in
        let v : get_or (map f d.components) i (f no_component) ≡ f b = get_or-map f d.components i no_component in
        sym u
        ∙ list_same width (f no_component) limits.components i (map f c.components) (map f d.components)
        (rw length-map p.component_count.1) (rw length-map q.component_count.1) (rw length-map l) (rw length-map m)
        (rw u w) (rw (u, v) s) r
        ∙ v

    component_same : a ≡ b
    component_same =
        λ x.
        record {
          states = states x;
          inputs = list 4 (λ k. k.inputs) g.input_count inputs (ap (λ t. t.inputs) e) x;
          outputs = list 8 (λ k. k.outputs) g.output_count outputs (ap (λ t. t.outputs) e) x;
          outs =
              list limits.states (λ k. k.outs) (rw g.out_count g.states.1) (g.out_count ∙ states ∙ sym h.out_count) (ap (λ t. t.outs) e) x;
          nexts =
              list (limits.states * 2 ^ limits.inputs) (λ k. k.nexts) (rw g.next_count (mul-le-mul g.states.1 (pow_mono g.input_count)))
              (g.next_count ∙ ap₂ (λ s n. s * 2 ^ n) states inputs ∙ sym h.next_count) (ap (λ t. t.nexts) e) x;
        }
      where
        g : PromisedComponent limits c.signals a
        g = promised_at limits c p i l

        h : PromisedComponent limits d.signals b
        h = promised_at limits d q i m

        states : a.states ≡ b.states
        states = number (λ k. k.states) refl (ap (λ t. t.states) e)

        inputs : length a.inputs ≡ length b.inputs
        inputs = number (λ k. length k.inputs) refl (ap (λ t. t.inputcounts) e)

        outputs : length a.outputs ≡ length b.outputs
        outputs = number (λ k. length k.outputs) refl (ap (λ t. t.outputcounts) e)

  components_same : c.components ≡ d.components
  components_same =
      let n : length c.components ≡ length d.components = ap (λ t. t.components) e in
      ext_get_or no_component c.components d.components n (λ i l. component_same i l (omega arith))

  nodes_same : c.nodes ≡ d.nodes
  nodes_same =
      ext_get_or top c.nodes d.nodes (ap (λ t. t.nodecount) e) (λ k l.
      node_same (get_or c.nodes k top) (get_or d.nodes k top)
      (sym (node c p k) ∙ ap (λ t. get_or t.nodes k (node_of top)) e ∙ node d q k))
    where
      node : (s : Contents) → Promised limits s → (k : ℕ) → get_or (layout s).nodes k (node_of top) ≡ node_of (get_or s.nodes k top)
      node s r k =
          filled_at (node_of top) limits.nodes (map node_of s.nodes) (rw length-map r.node_count.1) k ∙ get_or-map node_of s.nodes k top

  starts_same : c.starts ≡ d.starts
  starts_same =
      ext_get_or [] c.starts d.starts count (λ k l.
      let m : k < length d.starts = omega (arith, count) in
      let s : length (get_or c.starts k []) ≡ length c.components = (all_at (Start c) c.starts p.starts [] k l).0 in
      let r : length (get_or d.starts k []) ≡ length d.components = (all_at (Start d) d.starts q.starts [] k m).0 in
      list_same limits.components [] limits.starts k c.starts d.starts p.start_count q.start_count l m (rw s p.component_count.1)
      (s ∙ ap (λ t. t.components) e ∙ sym r) (ap (λ t. t.starts) e))
    where
      count : length c.starts ≡ length d.starts
      count = ap (λ t. t.startcount) e

  contents_same : c ≡ d
  contents_same =
      λ x.
      record {
        signals = (e x).signals;
        components = components_same x;
        nodes = nodes_same x;
        starts = starts_same x;
        sets = (p.bare ∙ sym q.bare) x;
      }

pub described_once : (t : Instrument) → IsProp ((k : Contents) × Describes t k)
described_once t a b =
    Σ_prop_path (describes_once t) (contents_same a.0 b.0 a.1.promised b.1.promised (sym a.1.same ∙ b.1.same))

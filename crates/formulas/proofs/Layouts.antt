-- The instrument of contents with nodes, and with starts (specs/Layout of crate instrument).
use mathlib.Core.Path.{◌≡◌, refl, sym, ap, ap₂, fun_ext, ◌∙◌}
use mathlib.Core.List.{List, [], ◌∷◌, ◌++◌, map}
use lib.ListN.{length, length-map, set, get_or}
use lib.Seq.{sets}
use native.Mathlib.Omega.{arith}
use Prim.Native.Nat.{ℕ, zero, suc, ◌+◌, ◌*◌, ◌≤◌, ◌<◌}
use Rattle.meaning.specs.Atoms.{Atom}
use Rattle.meaning.specs.File.Parser.{Got, Done, done, on, list_of, found}
use Rattle.meaning.specs.Nodes as formula
use Rattle.meaning.specs.File.Grammar.{Component, Contents, limits, less_than, start_state, start}
use Rattle.meaning.proofs.File.Lists.{list_none, list_more}
use Rattle.instrument.specs.declared.Instrument.{Instrument}
use Rattle.instrument.specs.declared.Node.{Node}
use Rattle.instrument.specs.Layout.{layout, node_of, row, rows}
use Rattle.instrument.proofs.Rows.{filled_at, rows_more}
use Rattle.parsing.specs.Stages.{mapped}
use Rattle.parsing.specs.Faults.{start_before}
use Rattle.parsing.proofs.Faults.{before_whole, before_few}
use Rattle.parsing.proofs.Parsers.{on_each}
use Rattle.parsing.proofs.Parts.{row_of, put_row, in_row}
use Rattle.parsing.proofs.Stores.{sets_map}
use Rattle.parsing.proofs.Times.{contents}
use Rattle.formulas.specs.Formulas.{start_by}

-- a start is judged by the sizes of its components
states_same : (file : List ℕ) (u v : List ℕ) (n c : ℕ) → ((i : ℕ) → i < c + n → get_or u i 0 ≡ get_or v i 0) → (at : ℕ)
    → list_of (start_state limits u) (λ c x. c + 1) n c file at ≡ list_of (start_state limits v) (λ c x. c + 1) n c file at
states_same file u v zero c h at =
    list_none (start_state limits u) (λ c x. c + 1) file c at ∙ sym (list_none (start_state limits v) (λ c x. c + 1) file c at)
states_same file u v (suc n) c h at =
    list_more (start_state limits u) (λ c x. c + 1) file n c at
    ∙ ap
    (λ (b : ℕ). on (less_than limits b 9 file at)
    (λ a next. on (list_of (start_state limits u) (λ c x. c + 1) n (c + 1) file next) (λ l e. found (a ∷ l) e))) (h c (omega arith))
    ∙ on_each (start_state limits v c file at) _ _
    (λ a next e. ap (λ g. on g (λ l e. found (a ∷ l) e)) (states_same file u v n (c + 1) (λ i l. h i (omega arith)) next))
    ∙ sym (list_more (start_state limits v) (λ c x. c + 1) file n c at)

start_same : (file : List ℕ) (n : ℕ) (vs : List ℕ) → length vs ≤ n → (at : ℕ) → start_by (row n vs) (length vs) file at ≡ start limits vs file at
start_same file n vs h at = states_same file (row n vs) vs (length vs) 0 (λ i l. filled_at 0 n vs h i) at

-- contents with these nodes, or these starts
abbrev pub with_nodes : Contents → List (formula.Node Atom) → Contents
with_nodes k ns = contents k.sets k.signals k.components ns k.starts

abbrev pub with_starts : Contents → List (List ℕ) → Contents
with_starts k ss = contents k.sets k.signals k.components k.nodes ss

none : {A : Type 0} (l : List A) → length l ≤ 0 → l ≡ []
none [] h = refl
none (a ∷ l) h = absurd (omega arith)

-- a node more is stored after those of a list
pub node_more : (l l₀ : List Node) (k : ℕ) (n : Node) (ns : List (formula.Node Atom)) (a : formula.Node Atom) → length ns ≡ k → n ≡ node_of a
    → l ≡ sets l₀ 0 (map node_of ns) → set l k n ≡ sets l₀ 0 (map node_of (ns ++ (a ∷ [])))
node_more l l₀ k n ns a q p h = rw (h, p, sym q) (sets_map node_of l₀ ns a)

-- a start more is stored after those of a list
pub start_more : (width : ℕ) (l m l₀ : List ℕ) (j : ℕ) (ss : List (List ℕ)) (s : List ℕ) → length ss ≡ j → m ≡ sets l (width * j) s
    → l ≡ rows width 0 l₀ ss → m ≡ rows width 0 l₀ (ss ++ (s ∷ []))
start_more width l m l₀ j ss s q p h =
    let e : j ≡ 0 + length ss = omega arith in
    p ∙ ap₂ (λ (l : List ℕ) (i : ℕ). sets l (width * i) s) h e ∙ rows_more width ss 0 l₀ s

module _ (sizes : List ℕ) (n : ℕ) (file : List ℕ) (at : ℕ) where
  -- a start of so many states is asked for as a part of an array has places for
  pub start_asked : (g : Got Done) (k : ℕ) → g ≡ mapped (λ vs. done) (start_by sizes k file at) → k ≡ n
      → g ≡ mapped (λ vs. done) (start_by sizes n file at)
  start_asked g k e l = e ∙ ap (λ k. mapped (λ vs. done) (start_by sizes k file at)) l

  -- and stored in part j
  pub start_stored : (j : ℕ) (l part s : List ℕ) (end : ℕ) → n ≤ limits.components → limits.components * j + limits.components ≤ length l
      → start_by sizes n file at ≡ found s end
      → part ≡ sets (row_of limits.components j n l) 0 (start_before sizes (length (row_of limits.components j n l)) file at)
      → put_row limits.components j n l part ≡ sets l (limits.components * j) s
  start_stored j l part s end few room q h =
      in_row limits.components j n l few room (λ k. start_before sizes k file at) part
      (before_few (start_state limits sizes) (λ c v. c + 1) file n 0 at) h
      ∙ ap (sets l (limits.components * j)) (before_whole (start_state limits sizes) (λ c v. c + 1) file n 0 at s end q)

module _ (t : Instrument) (k : Contents) (e : t ≡ layout k) where
  pub without_nodes : t.nodecount ≤ 0 → k.nodes ≡ []
  without_nodes h = none k.nodes (omega (arith, ap (λ (u : Instrument). u.nodecount) e))

  pub without_starts : t.startcount ≤ 0 → k.starts ≡ []
  without_starts h = none k.starts (omega (arith, ap (λ (u : Instrument). u.startcount) e))

  -- a start by the instrument's sizes is one by the sizes of the contents
  pub start_laid : t.components ≤ limits.components
      → start_by t.states t.components ≡ start limits (map (λ (c : Component). c.states) k.components)
  start_laid few =
      let sizes = map (λ (c : Component). c.states) k.components in
      let n = length-map k.components (λ (c : Component). c.states) in
      let c = ap (λ (u : Instrument). u.components) e in
      ap (λ (u : Instrument). start_by u.states u.components) e
      ∙ sym (ap (start_by (layout k).states) n)
      ∙ fun_ext (λ file. fun_ext (λ at. start_same file limits.components sizes (omega arith) at))

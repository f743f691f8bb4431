-- The grammar keeps what a reader promises: the contents that it finds in a file are Promised (specs/File/Promise). With it, how many bytes
-- it reads at most.
use mathlib.Core.Path.{◌∙◌, ◌≡◌, ap, refl, subst, sym}
use mathlib.Core.Logic.{inl, inr}
use mathlib.Core.List.{List, [], map}
use lib.Dec.{T, leb, leb→le, le→leb}
use lib.ListN.{get_or-map, get_or, length, length-map, length-take, take}
use native.Mathlib.Omega.{arith}
use Prim.Native.Nat.{◌*◌, ◌+◌, ◌<◌, ◌≤◌, ℕ}
use Rattle.words.proofs.Members.{has_none}
use Rattle.meaning.specs.Atoms.{Atom}
use Rattle.meaning.specs.File.Grammar.{Component, Contents, Limits, driven_by, filled, finished, limits, read_file, start, start_state, whole}
use Rattle.meaning.specs.File.Parser.{demand, done, found, repeat}
use Rattle.meaning.specs.File.Promise.{Promised, Within, no_component}
use Rattle.meaning.specs.Nodes.{Node}
use Rattle.meaning.specs.Tests.{All}
use Rattle.meaning.proofs.Basic.Booleans.{test_eq}
use Rattle.meaning.proofs.Basic.Lists.{all_map}
use Rattle.meaning.proofs.File.Components.{ComponentsRead, component_numbers, reads_components}
use Rattle.meaning.proofs.File.Driven.{has_driven}
use Rattle.meaning.proofs.File.Lists.{Sequence, along_all, along_places}
use Rattle.meaning.proofs.File.NodeLists.{NodesRead, reads_nodes}
use Rattle.meaning.proofs.File.Numbers.{reads_between, reads_less, width}
use Rattle.meaning.proofs.File.Parsers.{Reads, reads_bind, reads_demand, reads_found, reads_give, reads_list, reads_then, weaker}

-- a start as it was read
pub record StartRead (sizes start : List ℕ) : Type 0 where
  pub long : length start ≡ length sizes
  pub inside : (i : ℕ) → i < length sizes → get_or start i 0 < get_or sizes i 0

module _ (L : Limits) where
  -- ---- starts
  pub reads_start : (sizes : List ℕ) → length sizes ≤ L.components → Reads (start L sizes) (L.components * width L) (StartRead sizes)
  reads_start sizes l =
      weaker (omega arith) made
      (reads_list (start_state L sizes) (λ c v. c + 1) (λ c v. v < get_or sizes c 0) (λ c. reads_less L _ _) (length sizes)
      L.components l 0)
    where
      made : (vs : List ℕ) → Sequence (λ c v. v < get_or sizes c 0) (λ c v. c + 1) (length sizes) 0 vs → StartRead sizes vs
      made vs h =
          record {
            long = h.long;
            inside =
                λ i k. let e : 0 + i ≡ i = omega arith in
                subst (λ j. get_or vs i 0 < get_or sizes j 0) e (along_places (λ c v. v < get_or sizes c 0) 0 0 vs h.items i (omega (arith, h.long)));
          }

  pub reads_starts : (sizes : List ℕ) (m : ℕ) → length sizes ≤ L.components → m ≤ L.starts
      → Reads (repeat (start L sizes) m) (L.starts * (L.components * width L)) (λ ss. (length ss ≡ m) × All (StartRead sizes) ss)
  reads_starts sizes m l k =
      weaker (omega arith) (λ ss h. (h.long, along_all (StartRead sizes) done ss h.items))
      (reads_list (λ s. start L sizes) (λ s a. s) (λ s. StartRead sizes) (λ s. reads_start sizes l) m L.starts k done)

  -- ---- the end: one byte more would be seen
  reads_finished : Reads (finished L) 1 (λ d. Unit {0})
  reads_finished =
      record {
        says = λ file at. (weaker {c = 1} {Q = λ d. Unit {0}} (omega arith) (λ d h. tt) (reads_demand (leb (length file) at) 10)).says file at;
        same =
            λ k file at h. ap (λ t. demand t 10 (take k file) at) (ends k file at h)
            ∙ (reads_demand (leb (length file) at) 10).same k file at (omega arith);
      }
    where
      ends : (k : ℕ) (file : List ℕ) (at : ℕ) → at + 1 ≤ k → leb (length (take k file)) at ≡ leb (length file) at
      ends k file at h =
          test_eq (leb (length (take k file)) at) (leb (length file) at)
          (λ l. le→leb (length file) at (omega (arith, length-take k file, leb→le (length (take k file)) at l)))
          (λ l. le→leb (length (take k file)) at (omega (arith, length-take k file, leb→le (length file) at l)))

  -- ---- the file
  -- how many numbers the longest file has at most
  abbrev pub file_numbers : ℕ
  file_numbers = 4 + L.components * component_numbers L + L.nodes * 3 + L.starts * L.components

  promised : (n W k m : ℕ) (cs : List Component) (ns : List (Node Atom)) (ss : List (List ℕ)) → Within 1 L.components n → W ≤ L.signals
      → ComponentsRead L W no_component n cs → Within 1 L.nodes k → NodesRead (driven_by 0 cs) k ns → m ≤ L.starts
      → (length ss ≡ m) × All (StartRead (map (λ c. c.states) cs)) ss
      → Promised L (record { signals = W; components = cs; nodes = ns; starts = ss; sets = [] })
  promised n W k m cs ns ss hn hW qc hk qn hm qs =
      record {
        component_count = subst (Within 1 L.components) (sym qc.long) hn;
        signal_count = hW;
        components = qc.each;
        apart = qc.apart;
        node_count = subst (Within 1 L.nodes) (sym qn.long) hk;
        earlier = qn.earlier;
        named =
            λ k w e.
            elim ((has_driven no_component 0 cs w).0 (qn.names k w e)) [ inl h ↦ absurd (subst T (has_none w) h) | inr d ↦ d ];
        start_count = omega (arith, qs.0);
        starts = all_map each ss qs.1;
        bare = refl;
      }
    where
      each : (start : List ℕ) → StartRead (map (λ c. c.states) cs) start
          → (length start ≡ length cs) × ((i : ℕ) → i < length cs → get_or start i 0 < (get_or cs i no_component).states)
      each start h =
          let e : length (map (λ c. c.states) cs) ≡ length cs = length-map cs (λ c. c.states) in (
            h.long ∙ e,
            λ i l. subst (λ z. get_or start i 0 < z) (get_or-map (λ c. c.states) cs i no_component) (h.inside i (omega (arith, e))),
          )

  pub reads_whole : Reads (whole L filled) (file_numbers * width L + 1) (Promised L)
  unfolding whole
  reads_whole =
      weaker (omega arith) (λ c h. h)
      (reads_bind (reads_between L _ _ _) (λ n hn.
      reads_bind (reads_between L _ _ _) (λ W hW.
      reads_bind (reads_components L W no_component n hn.1) (λ cs qc.
      reads_bind (reads_between L _ _ _) (λ k hk.
      reads_bind (reads_nodes L W (driven_by 0 cs) k hk.1) (λ ns qn.
      reads_bind (reads_between L _ _ _) (λ m hm.
      reads_bind (reads_starts (map (λ c. c.states) cs) m (omega (arith, hn.1, qc.long, length-map cs (λ c. c.states))) hm.1) (λ ss qs.
      reads_then reads_finished (λ d u.
      reads_give (Promised L) (record { signals = W; components = cs; nodes = ns; starts = ss; sets = [] })
      (promised n W k m cs ns ss hn hW.1 qc hk qn hm.1 qs))))))))))

-- what a reader promises of an accepted file
pub file_promised : (file : List ℕ) (c : Contents) (e : ℕ) → read_file file ≡ found c e → Promised limits c
file_promised file c e q = (reads_found (reads_whole limits) file 0 c e q).0

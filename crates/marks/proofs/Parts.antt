-- The formula that an instrument's nodes list, as a whole array and as the part of it that has them, and its marks on a component.
use mathlib.Core.Path.{◌≡◌, sym, ap, ◌∙◌}
use mathlib.Core.List.{List}
use lib.ListN.{length, take, get_or-eq_default}
use lib.Seq.{get_or-take, length-take-le}
use native.Mathlib.Decide.{dec_lt}
use native.Mathlib.Omega.{arith}
use Prim.Native.Nat.{ℕ, ◌≤◌}
use Rattle.meaning.specs.Atoms.{Atom}
use Rattle.meaning.specs.Nodes as formula
use Rattle.meaning.specs.Nodes.{top, node_at}
use Rattle.meaning.specs.Instrument.{table}
use Rattle.meaning.specs.Seen.{view_of}
use Rattle.meaning.specs.File.Grammar.{Contents, instrument_of}
use Rattle.meaning.specs.File.Promise.{component_at}
use Rattle.instrument.specs.declared.Instrument.{Instrument}
use Rattle.instrument.specs.declared.Node.{Node}
use Rattle.instrument.specs.declared.component.Component.{Component}
use Rattle.instrument.specs.Described.{Describes}
use Rattle.instrument.specs.Layout.{node_of}
use Rattle.instrument.specs.Component.{IsComponent}
use Rattle.instrument.proofs.Bounds.{node_bounds}
use Rattle.instrument.proofs.Places.{nodecount_is, nodes_at, nodes_length}
use Rattle.instrument.proofs.Components.{component_table}
use Rattle.mark_rules.specs.declared.Mark.{Mark}
use Rattle.marks.specs.NodeMarks.{Listing, MarkedNodes, list_marks}
use Rattle.marks.proofs.Formulas.{own_view}

pub listing : (t : Instrument) (k : Contents) → Describes t k → Listing t.nodes t.nodecount k.nodes
listing t k d =
    record {
      at = nodes_at t k d;
      long = nodecount_is t k d;
      room = d.promised.node_count.1;
      earlier = d.promised.earlier;
    }

-- the first nodes of the array, as many as there are
pub listing_part : {nodes : List Node} {count : ℕ} {ns : List (formula.Node Atom)} → count ≤ length nodes → Listing nodes count ns
    → Listing (take count nodes) (length (take count nodes)) ns
listing_part {nodes} {count} {ns} h l =
    rw e
    (record {
      at =
          λ k.
          elim (dec_lt k count) [
            | yes p ↦ get_or-take count nodes k (node_of top) p ∙ l.at k
            | no p ↦ get_or-eq_default (take count nodes) (node_of top) (omega (arith, e)) ∙ sym (ap node_of (get_or-eq_default ns top (omega (arith, l.long))))
          ];
      long = l.long;
      room = l.room;
      earlier = l.earlier;
    })
  where
    e : length (take count nodes) ≡ count
    e = length-take-le count nodes h

-- what the nodes make of a component, as its table and its view in the instrument
pub component_row : (t : Instrument) (k : Contents) → Describes t k → (c : ℕ) (r : Component) → IsComponent (component_at k c) r
    → (row : List Mark) → MarkedNodes r (take t.nodecount t.nodes) row → row ≡ list_marks (table (instrument_of k) c) (view_of (instrument_of k) c) k.nodes
component_row t k d c r e row m =
    let v = view_of (instrument_of k) c in
    let q = component_table k c r e in
    m (component_at k c).inputs (sym e.inputs_are) v (rw q (own_view _ _)) k.nodes
    (listing_part (omega (arith, (node_bounds t k d).1, nodes_length t k d)) (listing t k d))
    ∙ ap (λ t. list_marks t v k.nodes) q

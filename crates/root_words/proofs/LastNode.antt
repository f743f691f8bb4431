-- Document 01's root, the last node: its words are the merged words, its bit is the answer of the lookup.
use mathlib.Core.Path.{◌≡◌, subst, sym, ap, ◌∙◌}
use mathlib.Core.List.{List}
use lib.ListN.{get_or}
use native.Mathlib.Omega.{arith}
use Prim.Native.Nat.{ℕ, ◌-◌}
use Rattle.meaning.specs.Instrument as meaning
use Rattle.meaning.specs.Instrument.{components, root_node, table}
use Rattle.meaning.specs.Merged.{merged_count_of}
use Rattle.meaning.specs.File.Grammar.{Contents, instrument_of}
use Rattle.meaning.specs.Reference.Answers.{list_below, merged_size, merged_words}
use Rattle.meaning.specs.Roots.{looked_at, root_alone, roots_size, roots_words}
use Rattle.meaning.proofs.Basic.Lists.{at_listed}
use Rattle.meaning.proofs.Roots.{root_looked, root_size, root_words}
use Rattle.answers.specs.Buffers.{entries, lent_after}
use Rattle.answers.specs.Outcomes.{looked_up}
use Rattle.instrument.specs.declared.Instrument.{Instrument}
use Rattle.instrument.specs.Described.{Describes}
use Rattle.instrument.specs.Layout.{row}
use Rattle.instrument.specs.Roots.{listed_roots, one_root}
use Rattle.instrument.proofs.LastRoot.{last_good, last_listed}
use Rattle.instrument.proofs.Places.{nodecount_is}
use Rattle.mark_rules.specs.declared.Mark.{Mark}
use Rattle.marks.specs.NodeMarks.{marks_of}
use Rattle.merging.specs.Contents.{named}
use Rattle.merging.specs.Parts as parts
use Rattle.merging.specs.Parts.{OfComponents}
use Rattle.partitions.specs.Classes.{MarkedInstrument, root_classes_of}
use Rattle.merged_words.specs.Prepared.{Askable, IsRoot, Prepared, Room, bit_by}
use Rattle.root_words.specs.LastNode.{RootPrepared, RootReady, RootRoom}
use Rattle.merged_words.proofs.Lookup.{askable, looked_up_lem, ready}
use Rattle.merged_words.proofs.Tables.{size_named}

module _ (t : Instrument) (k : Contents) (d : Describes t k) where
  abbrev I : meaning.Instrument
  I = instrument_of k

  -- the last node as the code lists it
  pub last_prepared : {marks : List (List Mark)} {names : List (List ℕ)} → RootPrepared t marks names k
      → Prepared t marks names (listed_roots (one_root (t.nodecount - 1))) k
  last_prepared {marks} {names} p = subst (λ roots. Prepared t marks names roots k) (sym (last_listed t k d)) p

  pub last_words : (old : List ℕ) → lent_after (entries (roots_words I (listed_roots (one_root (t.nodecount - 1))))) old ≡ lent_after (entries (merged_words I)) old
  last_words old = ap (λ ws. lent_after (entries ws) old) (ap (roots_words I) (last_listed t k d) ∙ root_words I)

  pub last_is : IsRoot k (root_alone I) (t.nodecount - 1)
  last_is =
      rw (nodecount_is t k d)
      (record { node = omega (arith, d.promised.node_count.0); listed = at_listed (root_alone I) 0 (omega arith) })

  -- how many merged states there are, by the names as they stand
  pub root_named : (names : List (List ℕ)) → names ≡ root_classes_of I → merged_count_of (components I) (table I) (named names) ≡ merged_size I
  root_named names e = size_named t k d (root_alone I) names e ∙ root_size I

  pub root_ready : (names : List (List ℕ)) → names ≡ root_classes_of I → (old words : List ℕ) → words ≡ lent_after (entries (merged_words I)) old
      → RootReady t names words k
  root_ready names e old words w = ready t names (root_alone I) k d e old words (w ∙ ap (λ ws. lent_after (entries ws) old) (sym (root_words I)))

-- its answer
pub last_looked : (t : Instrument) (k : Contents) → Describes t k → (s : ℕ → ℕ)
    → looked_at (instrument_of k) (root_alone (instrument_of k)) (t.nodecount - 1) s
    ≡ looked_at (instrument_of k) (root_alone (instrument_of k)) (root_node (instrument_of k)) s
last_looked t k d s = ap (λ n. looked_at (instrument_of k) (root_alone (instrument_of k)) (n - 1) s) (nodecount_is t k d)

pub last_room : {t : Instrument} {marks : List (List Mark)} {names : List (List ℕ)} {out : List ℕ} → RootRoom t marks names out
    → Room t marks names (one_root (t.nodecount - 1)) out
last_room {t} r =
    let k = r.contents in
    let d = r.prepared.describes in
    let e : roots_size (instrument_of k) (listed_roots (one_root (t.nodecount - 1))) ≡ merged_size (instrument_of k) =
    ap (roots_size (instrument_of k)) (last_listed t k d) ∙ root_size (instrument_of k)
    in
    record {
      contents = k;
      prepared = last_prepared t k d r.prepared;
      good = last_good t k d;
      few = omega (arith, e, r.few);
      fits = omega (arith, e, r.fits);
    }

-- the lookup by class counts that stand in an array
module _
    (t : Instrument)
    (names : List (List ℕ))
    (words states : List ℕ)
    (o : OfComponents t states)
    (counts : List ℕ)
    (e : counts ≡ row 4 (list_below t.components (parts.classes_of t names)))
    (k : Contents)
    (r : RootReady t names words k)
  where
    is : IsRoot k (root_alone (instrument_of k)) (t.nodecount - 1)
    is = last_is t k r.describes

    pub root_askable : Askable names counts t.components (t.nodecount - 1) words states
    root_askable = askable t names words states o counts e k (root_alone (instrument_of k)) r (t.nodecount - 1) is

    pub root_looked_up : bit_by names counts t.components (t.nodecount - 1) words states ≡ looked_up (instrument_of k) states
    root_looked_up =
        looked_up_lem t names words states o counts e k (root_alone (instrument_of k)) r (t.nodecount - 1) is
        ∙ last_looked t k r.describes (λ i. get_or states i 0) ∙ root_looked (instrument_of k) (λ i. get_or states i 0)

-- what marks and classes say of the instrument, together
module _ {t : Instrument} {marks : List (List Mark)} (marked : (k : Contents) → Describes t k → marks ≡ marks_of (instrument_of k)) where
  pub own_marks : (k : Contents) → Describes t k → MarkedInstrument t marks k
  own_marks k d = record { describes = d; marked = marked k d }

  pub own_prepared : {names : List (List ℕ)} → ((k : Contents) → MarkedInstrument t marks k → names ≡ root_classes_of (instrument_of k))
      → (k : Contents) → Describes t k → RootPrepared t marks names k
  own_prepared named k d = record { describes = d; marked = marked k d; named = named k (own_marks k d) }

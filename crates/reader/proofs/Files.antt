-- The whole file in the steps of the code: what is reached after each stage, or the first fault.
use mathlib.Core.Path.{◌≡◌, sym, ap, ◌∙◌}
use mathlib.Core.List.{List}
use Prim.Native.Nat.{ℕ, ◌≤◌}
use Rattle.std.specs.Prelude.{Ok}
use Rattle.cursor.specs.declared.Cursor.{Cursor}
use Rattle.meaning.specs.File.Parser.{Got, found, fault, Parser, done, on}
use Rattle.meaning.specs.File.Grammar.{Contents, limits, finished, read_file}
use Rattle.meaning.proofs.File.Lists.{on_assoc}
use Rattle.instrument.specs.declared.Instrument.{Instrument}
use Rattle.instrument.specs.Layout.{layout, nothing}
use Rattle.parsing.specs.Stages.{mapped, Stage}
use Rattle.parsing.proofs.Parsers.{was, was_fault}
use Rattle.component_fields.specs.Stages.{Rows}
use Rattle.tables.specs.declared.Shapes.{Shapes}
use Rattle.tables.specs.Stages.{read_tables}
use Rattle.tables.specs.Growth.{assembled}
use Rattle.tables.specs.Steps.{Tabled}
use Rattle.formulas.specs.declared.nodes.NodeList.{NodeList}
use Rattle.formulas.specs.declared.starts.StartList.{StartList}
use Rattle.formulas.specs.Formulas.{node_list, start_list, all_nodes, all_starts}
use Rattle.formulas.specs.Stages.{read_nodes, read_starts}
use Rattle.formulas.proofs.Counted.{add_nodes, add_starts}
use Rattle.formulas.proofs.Layouts.{with_nodes, with_starts}
use Rattle.reader.specs.Stages.{read_end}
use Rattle.reader.specs.Steps.{changed, Reached}
use Rattle.reader.proofs.Grammar.{read_all_lem}

module _ (file : List ℕ) where
  pub in_stages : on (on (on (read_tables file 0) (λ k at. read_nodes k file at)) (λ k at. read_starts k file at)) (λ k at. read_end k file at)
      ≡ read_file file
  in_stages =
      ap (λ g. on g (λ k at. read_end k file at)) (on_assoc (read_tables file 0) (λ k at. read_nodes k file at) (λ k at. read_starts k file at))
      ∙ on_assoc (read_tables file 0) (λ k at. on (read_nodes k file at) (λ k at. read_starts k file at)) (λ k at. read_end k file at)
      ∙ ap (λ f. on (read_tables file 0) f)
      (λ i k at. on_assoc (read_nodes k file at) (λ k at. read_starts k file at) (λ k at. read_end k file at) i)
      ∙ read_all_lem file

  -- a fault of one stage is that of the file
  pub fault_in_tables : (r : ℕ) → read_tables file 0 ≡ fault r → read_file file ≡ fault r
  fault_in_tables r e =
      sym in_stages
      ∙ ap (λ g. on (on (on g (λ k at. read_nodes k file at)) (λ k at. read_starts k file at)) (λ k at. read_end k file at)) e

  pub fault_in_nodes : (r : ℕ) → on (read_tables file 0) (λ k at. read_nodes k file at) ≡ fault r → read_file file ≡ fault r
  fault_in_nodes r e = sym in_stages ∙ ap (λ g. on (on g (λ k at. read_starts k file at)) (λ k at. read_end k file at)) e

  pub fault_in_starts : (r : ℕ) → on (on (read_tables file 0) (λ k at. read_nodes k file at)) (λ k at. read_starts k file at) ≡ fault r
      → read_file file ≡ fault r
  fault_in_starts r e = sym in_stages ∙ ap (λ g. on g (λ k at. read_end k file at)) e

  -- after all stages the file is read
  pub whole_reached : {t : Instrument} {at : ℕ}
      → Reached (on (on (on (read_tables file 0) (λ k at. read_nodes k file at)) (λ k at. read_starts k file at)) (λ k at. read_end k file at)) t at
      → Reached (read_file file) t at
  whole_reached p = record { contents = p.contents; read = sym in_stages ∙ p.read; laid = p.laid }

  -- after some contents
  module _ {g : Got Contents} {t : Instrument} {at : ℕ} (p : Reached g t at) where
    -- A stage reads a thing a into the contents; `held` is what the code answers of it, and f puts that into the instrument.
    module _
        {A B : Type 0} (stage : Stage) (parser : Parser A) (into : A → Contents) (held : A → B) (f : B → Instrument)
        (is : stage p.contents file at ≡ mapped into (parser file at))
        (laid : (a : A) → f (held a) ≡ layout (into a))
      where
        stage_read : (b : B) (next : ℕ) → found b next ≡ mapped held (parser file at) → Reached (on g (λ k at. stage k file at)) (f b) next
        stage_read b next e =
            let w = was held (parser file at) b next e in
            record {
              contents = into w.value;
              read = ap (λ g. on g (λ k at. stage k file at)) p.read ∙ is ∙ ap (mapped into) w.is;
              laid = ap f w.same ∙ laid w.value;
            }

        stage_refused : (r : ℕ) → fault r ≡ mapped held (parser file at) → on g (λ k at. stage k file at) ≡ fault r
        stage_refused r e =
            ap (λ g. on g (λ k at. stage k file at)) p.read ∙ is ∙ ap (mapped into) (was_fault held (parser file at) r e)

    module _ (none : t.nodecount ≤ 0) where
      pub nodes_read : (l : NodeList) (next : ℕ) → found l next ≡ mapped node_list (all_nodes t.signals t.driven file at)
          → Reached (on g (λ k at. read_nodes k file at)) (changed t l.count l.nodes t.startcount t.starts) next
      nodes_read =
          stage_read read_nodes (all_nodes t.signals t.driven) (with_nodes p.contents) node_list
          (λ l. changed t l.count l.nodes t.startcount t.starts) (add_nodes t p.contents p.laid file at none)
          (λ ns. ap (λ (u : Instrument). changed u (node_list ns).count (node_list ns).nodes u.startcount u.starts) p.laid)

      pub nodes_refused : (r : ℕ) → fault r ≡ mapped node_list (all_nodes t.signals t.driven file at)
          → on g (λ k at. read_nodes k file at) ≡ fault r
      nodes_refused =
          stage_refused read_nodes (all_nodes t.signals t.driven) (with_nodes p.contents) node_list
          (λ l. changed t l.count l.nodes t.startcount t.starts) (add_nodes t p.contents p.laid file at none)
          (λ ns. ap (λ (u : Instrument). changed u (node_list ns).count (node_list ns).nodes u.startcount u.starts) p.laid)

    module _ (none : t.startcount ≤ 0) (few : t.components ≤ limits.components) where
      pub starts_read : (l : StartList) (next : ℕ) → found l next ≡ mapped start_list (all_starts t.states t.components file at)
          → Reached (on g (λ k at. read_starts k file at)) (changed t t.nodecount t.nodes l.count l.starts) next
      starts_read =
          stage_read read_starts (all_starts t.states t.components) (with_starts p.contents) start_list
          (λ l. changed t t.nodecount t.nodes l.count l.starts) (add_starts t p.contents p.laid file at none few)
          (λ ss. ap (λ (u : Instrument). changed u u.nodecount u.nodes (start_list ss).count (start_list ss).starts) p.laid)

      pub starts_refused : (r : ℕ) → fault r ≡ mapped start_list (all_starts t.states t.components file at)
          → on g (λ k at. read_starts k file at) ≡ fault r
      starts_refused =
          stage_refused read_starts (all_starts t.states t.components) (with_starts p.contents) start_list
          (λ l. changed t t.nodecount t.nodes l.count l.starts) (add_starts t p.contents p.laid file at none few)
          (λ ss. ap (λ (u : Instrument). changed u u.nodecount u.nodes (start_list ss).count (start_list ss).starts) p.laid)

    pub ended : (next : ℕ) → found done next ≡ finished limits file at → Reached (on g (λ k at. read_end k file at)) t next
    ended next e =
        record {
          contents = p.contents;
          read = ap (λ g. on g (λ k at. read_end k file at)) p.read ∙ ap (λ d. on d (λ x n. found p.contents n)) (sym e);
          laid = p.laid;
        }

    pub trailing : (r : ℕ) → fault r ≡ finished limits file at → on g (λ k at. read_end k file at) ≡ fault r
    trailing r e = ap (λ g. on g (λ k at. read_end k file at)) p.read ∙ ap (λ d. on d (λ x n. found p.contents n)) (sym e)

-- the components are read, and their words are in both arrays
pub tabled_reached : {g : Got Contents} {words : Rows} {s : Shapes} {next : Cursor} {outs nexts : List ℕ} → Tabled g words (Ok (s, next)) outs nexts
    → Reached g (assembled (layout nothing) s outs nexts) next.at
tabled_reached {g} t = let w = was layout g _ _ t.laid in record { contents = w.value; read = w.is; laid = w.same }

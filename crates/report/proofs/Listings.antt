-- The listing from the arrays of an instrument that describes a file's contents.
use mathlib.Core.Path.{◌≡◌, ap₂}
use mathlib.Core.List.{List, [], ◌++◌}
use lib.ListN.{length, get_or}
use Prim.Native.Nat.{ℕ, ◌+◌, ◌*◌, ◌≤◌, ◌<◌}
use Rattle.meaning.specs.Instrument as meaning
use Rattle.meaning.specs.Instrument.{components, table}
use Rattle.meaning.specs.File.Grammar.{Contents, instrument_of, limits, most_states}
use Rattle.meaning.specs.Reference.Answers.{classes_at}
use Rattle.meaning.proofs.Basic.Entries.{join_same}
use Rattle.answers.specs.Outcomes.{Judgement}
use Rattle.answers.specs.Listing as listing
use Rattle.answers.specs.Listing.{verdict_line, class_line, size_line, listing_text}
use Rattle.instrument.specs.declared.Instrument.{Instrument}
use Rattle.instrument.specs.Described.{Describes}
use Rattle.instrument.proofs.Bounds.{count_bounds, states_bounds}
use Rattle.instrument.proofs.Tables.{table_count, table_states}
use Rattle.partitions.specs.Classes.{root_classes_of}
use Rattle.partitions.proofs.Classes.{root_name}
use Rattle.listing_lines.specs.Lines.{class_lines}
use Rattle.report.specs.Report.{Listed}
use Rattle.listing_lines.proofs.Lengths.{classes_length}
use Rattle.listing_lines.proofs.Names.{line_same}

module _ (t : Instrument) (k : Contents) (d : Describes t k) where
  abbrev I : meaning.Instrument
  I = instrument_of k

  pub described_few : (t.components ≤ limits.components) × ((i : ℕ) → i < t.components → get_or t.states i 0 ≤ most_states)
  described_few = ((count_bounds t k d).1, λ i l. (states_bounds t k d i l).1)

  pub lines_same : (names : List (List ℕ)) → names ≡ root_classes_of I → class_lines t.components t.states names ≡ listing.class_lines I
  lines_same names e =
      rw (e, ← table_count t k d)
      (join_same (components I) (λ i. class_line i (get_or t.states i 0) (λ x. get_or (get_or (root_classes_of I) i []) x 0))
      (λ i. class_line i (table I i).states (classes_at I i)) (λ i l.
      rw (← table_states t k d i)
      (line_same i (table I i).states (λ x. get_or (get_or (root_classes_of I) i []) x 0) (classes_at I i) (λ x h. root_name t k d i x l h))))

  -- how long its class lines are at most
  pub described_short : (names : List (List ℕ)) → names ≡ root_classes_of I
      → length (class_lines t.components t.states names) ≤ limits.components * (39 + 3 * most_states)
  described_short names e = rw (lines_same names e) (classes_length k d.promised)

pub listing_same : (t : Instrument) (names : List (List ℕ)) (size full : ℕ) (k : Contents) → Listed t names size full k → (j : Judgement)
    → verdict_line j ++ (class_lines t.components t.states names ++ size_line size full) ≡ listing_text (instrument_of k) j
unfolding listing_text
listing_same t names size full k h j =
    ap₂ (λ a b. verdict_line j ++ (a ++ b)) (lines_same t k h.describes names h.named) (ap₂ size_line h.merged_is h.full_is)

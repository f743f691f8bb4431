use Rattle.std.proofs.Common.{◌≡◌, sym, ◌∙◌, List, ℕ, length, arith}
use Rattle.meaning.specs.File.Grammar.{Contents, instrument_of}
use Rattle.meaning.specs.Instrument.{components, table}
use Rattle.meaning.specs.Merged.{merged_count_of}
use Rattle.meaning.specs.Reference.Answers.{merged_size, merged_word, merged_words}
use Rattle.answers.specs.Buffers.{fitting}
use Rattle.meaning.proofs.Basic.Entries.{list_length}
use Rattle.instrument.specs.declared.Instrument.{Instrument}
use Rattle.mark_rules.specs.declared.Mark.{Mark}
use Rattle.merging.specs.Contents.{named}
use Rattle.root_words.specs.LastNode.{RootPrepared}
use Rattle.cursor.specs.declared.Refusal.TheVariants.{MergedSize}
use Rattle.root_words.proofs.LastNode.{root_named, own_prepared}
use Rattle.entry_queries.proofs.Answering.{oversized, within_room, too_short, written}
use Rattle.entry_queries.proofs.write_short.Goals as goal

-- so many merged states are counted
counted : {t : Instrument} {marks : List (List Mark)} {names : List (List ℕ)} {k : Contents} {m : ℕ} → RootPrepared t marks names k
    → m ≡ merged_count_of (components (instrument_of k)) (table (instrument_of k)) (named names) → m ≡ merged_size (instrument_of k)
counted {t} {marks} {names} {k} p e = e ∙ root_named t k p.describes names p.named

pub root_classes-names-requires : goal.root_classes-names-requires
root_classes-names-requires c =
    let (k, d) = c.args.t.described in
    (k, record { describes = d; marked = c.all_marks-marks.ensures k d })

pub merged_count-merged-requires : goal.merged_count-merged-requires
merged_count-merged-requires c = let (k, d) = c.args.t.described in (c.args.t.nexts.now, k, d)

pub returns-then-merged-gt4096 : goal.returns-then-merged-gt4096
returns-then-merged-gt4096 c =
    λ k d.
    let n = counted (own_prepared c.all_marks-marks.ensures c.root_classes-names.ensures k d) (c.merged_count-merged.ensures _ k d) in
    let I = instrument_of k in
    oversized (merged_size I) (fitting (length c.args.out.now) (merged_words I)) MergedSize c.args.out.now (omega (arith, n))

pub returns-then-out-merged : goal.returns-then-out-merged
returns-then-out-merged c =
    λ k d.
    let n = counted (own_prepared c.all_marks-marks.ensures c.root_classes-names.ensures k d) (c.merged_count-merged.ensures _ k d) in
    let I = instrument_of k in
    let old = c.args.out.now in
    within_room (merged_size I) 12 (fitting (length old) (merged_words I)) (omega (arith, n))
    (too_short (merged_words I) old (omega (arith, n, list_length (merged_size I) (merged_word I))))

pub write_root_words-requires : goal.write_root_words-requires
write_root_words-requires c =
    let (k, d) = c.args.t.described in
    let p = own_prepared c.all_marks-marks.ensures c.root_classes-names.ensures k d in
    let n = counted p (c.merged_count-merged.ensures _ k d) in
    record {
      contents = k;
      prepared = p;
      few = omega (arith, n);
      fits = omega (arith, n);
    }

pub returns : goal.returns
returns c =
    λ k d.
    let p = own_prepared c.all_marks-marks.ensures c.root_classes-names.ensures k d in
    let n = counted p (c.merged_count-merged.ensures _ k d) in
    let I = instrument_of k in
    let old = c.args.out.now in
    within_room (merged_size I) 12 (fitting (length old) (merged_words I)) (omega (arith, n))
    (written (merged_words I) old _ c.merged_count-merged.result (n ∙ sym (list_length (merged_size I) (merged_word I)))
    (omega (arith, n, list_length (merged_size I) (merged_word I)))
    (c.write_root_words.ensures k p))

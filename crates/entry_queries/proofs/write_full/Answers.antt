use Rattle.std.proofs.Common.{ap, sym, ◌∙◌, length, arith}
use Rattle.meaning.specs.File.Grammar.{instrument_of}
use Rattle.meaning.specs.Reference.Answers.{full_count, full_word, full_words}
use Rattle.answers.specs.Buffers.{entries, lent_after, fitting}
use Rattle.meaning.proofs.Basic.Entries.{list_length}
use Rattle.instrument.specs.Delivered.{delivered}
use Rattle.cursor.specs.declared.Refusal.TheVariants.{FullSize}
use Rattle.truth.proofs.Combination.{unbarred_words}
use Rattle.entry_queries.proofs.Answering.{oversized, within_room, too_short, written}
use Rattle.entry_queries.proofs.write_full.Goals as goal

pub returns-then-states-gt4096 : goal.returns-then-states-gt4096
returns-then-states-gt4096 c k d =
    let old = c.args.out.now in
    let I = instrument_of k in
    oversized (full_count I) (fitting (length old) (full_words I)) FullSize old (omega (arith, c.combined_count-states.ensures k d))

pub returns-then-out-states : goal.returns-then-out-states
returns-then-out-states c k d =
    let old = c.args.out.now in
    let I = instrument_of k in
    let n = c.combined_count-states.ensures k d in
    within_room (full_count I) 11 (fitting (length old) (full_words I)) (omega (arith, n))
    (too_short (full_words I) old (omega (arith, n, list_length (full_count I) (full_word I))))

pub write_truth-requires : goal.write_truth-requires
write_truth-requires c =
    let (k, d) = c.args.t.described in
    let n = c.combined_count-states.ensures k d in
    record { contents = k; described = d; few = omega (arith, n); fits = omega (arith, n) }

pub returns : goal.returns
returns c k d =
    let old = c.args.out.now in
    let I = instrument_of k in
    let n = c.combined_count-states.ensures k d in
    let w = c.write_truth.ensures k d in
    within_room (full_count I) 11 (fitting (length old) (full_words I)) (omega (arith, n))
    (written (full_words I) old _ c.combined_count-states.result (n ∙ sym (list_length (full_count I) (full_word I)))
    (omega (arith, n, list_length (full_count I) (full_word I))) (w ∙ ap (λ ws. lent_after (entries ws) old) (unbarred_words (delivered c.args.t) k d)))

use Rattle.std.proofs.Common.{sym, mul-le-mul, arith, ◌*◌, ◌≤◌}
use Rattle.meaning.specs.File.Grammar.{instrument_of}
use Rattle.meaning.specs.Reference.Answers.{mark_words_of}
use Rattle.instrument.specs.declared.Instrument.{Instrument}
use Rattle.instrument.specs.Delivered.{delivered}
use Rattle.instrument.proofs.Bounds.{count_bounds, node_bounds}
use Rattle.marks.proofs.AllMarks.{words_length}
use Rattle.entry_queries.proofs.Answering.{too_short, written}
use Rattle.entry_queries.proofs.write_marked.Goals as goal

pub overflow_cast-marked : goal.overflow_cast-marked
overflow_cast-marked c =
    -- the instrument
    let own : Instrument = delivered c.args.t in
    omega (arith, (count_bounds own c.args.t.described.0 c.args.t.described.1).1)

pub overflow_mul-marked : goal.overflow_mul-marked
overflow_mul-marked c =
    -- the instrument
    let own : Instrument = delivered c.args.t in
    omega (arith, (count_bounds own c.args.t.described.0 c.args.t.described.1).1)

pub overflow_cast-marked-2 : goal.overflow_cast-marked-2
overflow_cast-marked-2 c =
    -- the instrument
    let own : Instrument = delivered c.args.t in
    omega (arith, (node_bounds own c.args.t.described.0 c.args.t.described.1).1)

pub overflow_mul-marked-2 : goal.overflow_mul-marked-2
overflow_mul-marked-2 c =
    -- the instrument
    let own : Instrument = delivered c.args.t in
    let t = own in
    let few : 2 * t.components ≤ 8 = omega (arith, (count_bounds t c.args.t.described.0 c.args.t.described.1).1) in
    let all : 2 * t.components * t.nodecount ≤ 8 * 24 = mul-le-mul few (node_bounds t c.args.t.described.0 c.args.t.described.1).1 in
    omega (arith, all)

pub returns-then-out-marked : goal.returns-then-out-marked
returns-then-out-marked c k d =
    -- the instrument
    let own : Instrument = delivered c.args.t in
    too_short (mark_words_of (instrument_of k)) c.args.out.now (omega (arith, words_length own k d))

pub write_marks-requires : goal.write_marks-requires
write_marks-requires c = omega arith

pub returns : goal.returns
returns c k d =
    -- the instrument
    let own : Instrument = delivered c.args.t in
    written (mark_words_of (instrument_of k)) c.args.out.now _ _ (sym (words_length own k d)) (omega (arith, words_length own k d))
    (c.write_marks.ensures k d)

use Rattle.std.proofs.Common.{arith}
use Rattle.meaning.specs.File.Grammar.{instrument_of}
use Rattle.instrument.specs.Delivered.{delivered}
use Rattle.root_words.proofs.LastNode.{root_named}
use Rattle.value_queries.proofs.Telling.{looked_large, looked}
use Rattle.value_queries.proofs.look_up.Goals as goal

pub root_classes-names-requires : goal.root_classes-names-requires
root_classes-names-requires c =
    let (k, d) = c.args.t.described in
    (k, record { describes = d; marked = c.all_marks-marks.ensures k d })

pub merged_count-n-requires : goal.merged_count-n-requires
merged_count-n-requires c = let (k, d) = c.args.t.described in (c.args.t.nexts.now, k, d)

pub returns-then-n-gt4096 : goal.returns-then-n-gt4096
returns-then-n-gt4096 c =
    λ k d a.
    let e = c.root_classes-names.ensures k (record { describes = d; marked = c.all_marks-marks.ensures k d }) in
    looked_large (instrument_of k) c.args.states a
    (omega (arith, c.merged_count-n.ensures _ k d, root_named (delivered c.args.t) k d c.root_classes-names.result e))

pub bit_of-requires : goal.bit_of-requires
bit_of-requires c =
    let (k, d) = c.args.t.described in
    let e = c.root_classes-names.ensures k (record { describes = d; marked = c.all_marks-marks.ensures k d }) in (
      (
        k,
        record { describes = d; marked = c.all_marks-marks.ensures k d; named = e },
        omega (arith, c.merged_count-n.ensures _ k d, root_named (delivered c.args.t) k d c.root_classes-names.result e),
      ),
      c.requires,
    )

pub returns : goal.returns
returns c =
    λ k d a.
    let e = c.root_classes-names.ensures k (record { describes = d; marked = c.all_marks-marks.ensures k d }) in
    looked (instrument_of k) c.args.states a
    (omega (arith, c.merged_count-n.ensures _ k d, root_named (delivered c.args.t) k d c.root_classes-names.result e)) c.bit_of.result
    (c.bit_of.ensures k (record { describes = d; marked = c.all_marks-marks.ensures k d; named = e }))

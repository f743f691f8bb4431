use Rattle.std.proofs.Common.{sym, ◌∙◌, arith}
use Rattle.meaning.specs.File.Grammar.{instrument_of}
use Rattle.meaning.specs.Reference.Answers.{class_names_of}
use Rattle.instrument.specs.Delivered.{delivered}
use Rattle.partitions.proofs.Classes.{root_length}
use Rattle.entry_queries.proofs.Answering.{too_short, written}
use Rattle.entry_queries.proofs.write_named.Goals as goal

pub returns-then-out-named : goal.returns-then-out-named
returns-then-out-named c k d =
    let t = delivered c.args.t in
    too_short (class_names_of (instrument_of k)) c.args.out.now (omega (arith, c.state_sum-named.ensures, root_length t k d))

pub write_root_classes-requires : goal.write_root_classes-requires
write_root_classes-requires c = omega (arith, c.state_sum-named.ensures)

pub returns : goal.returns
returns c k d =
    let t = delivered c.args.t in
    written (class_names_of (instrument_of k)) c.args.out.now _ _ (c.state_sum-named.ensures ∙ sym (root_length t k d))
    (omega (arith, c.state_sum-named.ensures, root_length t k d)) (c.write_root_classes.ensures k d)

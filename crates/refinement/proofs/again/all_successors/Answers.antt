use Rattle.std.proofs.Common.{sym, ◌∙◌, arith}
use Rattle.words.specs.Sets.{union}
use Rattle.words.proofs.Built.{built_empty}
use Rattle.meaning.specs.StepWords.{successor_word}
use Rattle.meaning.proofs.Meaning.Full.{length_up_to}
use Rattle.loops.proofs.Folded.{folded_start, folded_more, folded_end}
use Rattle.classes.proofs.Component.{within}
use Rattle.refinement.proofs.United.{united_more}
use Rattle.refinement.proofs.again.all_successors.Goals as goal

pub loop-a-init : goal.loop-a-init
loop-a-init c = folded_start (sym (built_empty _))

pub successors-requires : goal.successors-requires
successors-requires c = within c.args.table.steps _ _ c.requires (omega arith)

pub loop-a-preserved : goal.loop-a-preserved
loop-a-preserved c =
    let t = c.args.table in
    let f = successor_word t.inputs t.succ.now c.args.x in
    folded_more c.loop-a.invariant (omega arith) (union (f c.loop-a.a)) (c.union-result.ensures ∙ rw c.successors.ensures)
    (united_more t.states f c.loop-a.a (t.steps.narrow _ _ c.requires (omega arith)))

pub returns : goal.returns
returns c = rw (length_up_to c.args.table.inputs) (folded_end c.loop-a.invariant (omega arith))

use Rattle.std.proofs.Common.{◌≡◌, List, ℕ, ◌-◌, ◌≤◌, ◌<◌, arith, rules, get_or, []}
use Rattle.meaning.specs.File.Grammar.{Contents}
use Rattle.instrument.specs.declared.Instrument.{Instrument}
use Rattle.instrument.specs.Described.{Describes}
use Rattle.instrument.specs.Outline.{whole}
use Rattle.instrument.proofs.Bounds.{count_bounds, node_bounds}
use Rattle.mark_rules.specs.declared.Mark.{Mark}
use Rattle.marks.specs.NodeMarks.{no_mark}
use Rattle.start_marks.specs.Starts.{start_states, SmallStates}
use Rattle.start_marks.proofs.Made.{made_list}
use Rattle.start_marks.proofs.States.{start_room, states_small}
use Rattle.start_marks.proofs.Starts.{tallied_start, tallied_more, tallied_end}
use Rattle.start_marks.proofs.tally_starts.Goals as goal

-- the states of a start are bits of a word
states_bits : {t : Instrument} {k : Contents} {states : List ℕ} (j : ℕ) → Describes t k → j < t.startcount → states ≡ start_states t.starts j
    → (t.components ≤ 4) × SmallStates t.components states
states_bits {t} {k} j d h e = ((count_bounds t k d).1, rw e (states_small t j k d h))

pub overflow_sub-root : goal.overflow_sub-root
overflow_sub-root c =
    omega (arith, (node_bounds (whole c.args.t c.requires.0) c.requires.1 c.requires.2.describes).0)

pub loop-j-init : goal.loop-j-init
loop-j-init c = tallied_start _ _ _ _ _

pub start_states-states-requires : goal.start_states-states-requires
start_states-states-requires c =
    start_room (whole c.args.t c.requires.0) c.loop-j.j c.requires.1 c.requires.2.describes c.loop-j-test.true

pub loop-j-preserved : goal.loop-j-preserved
loop-j-preserved c =
    let l = c.loop-j in
    tallied_more _ _ _ _ _ l.j c.start_states-states.result l.failing l.passing c.start_marked-passing.result
    c.start_marked-failing.result c.loop-j-test.true c.start_states-states.ensures c.start_marked-passing.ensures c.start_marked-failing.ensures
    l.invariant

pub start_marked-failing-requires : goal.start_marked-failing-requires
start_marked-failing-requires c = states_bits c.loop-j.j c.requires.2.describes c.loop-j-test.true c.start_states-states.ensures

pub start_marked-passing-requires : goal.start_marked-passing-requires
start_marked-passing-requires c = states_bits c.loop-j.j c.requires.2.describes c.loop-j-test.true c.start_states-states.ensures

pub returns : goal.returns
returns c =
    λ nexts k m.
    let at : ℕ → Mark = λ i. get_or (get_or c.args.marks i []) (c.args.t.nodecount - 1) no_mark in
    tallied_end _ _ k m _ _ (made_list (λ i. (at i).pass) (λ i y q r. (search rules, search rules)) c.from_fn-passes.ensures.items)
    (made_list (λ i. (at i).fail) (λ i y q r. (search rules, search rules)) c.from_fn-fails.ensures.items) c.loop-j.j
    (omega (arith, c.loop-j.invariant.reached, c.loop-j-test.false)) c.loop-j.failing c.loop-j.passing c.loop-j.invariant

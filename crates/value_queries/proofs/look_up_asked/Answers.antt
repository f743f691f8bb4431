use Rattle.std.proofs.Common.{sym, ◌∙◌}
use Rattle.meaning.specs.File.Grammar.{instrument_of}
use Rattle.instrument.specs.Delivered.{delivered}
use Rattle.value_queries.proofs.Telling.{asked_none, asked_listed}
use Rattle.value_queries.proofs.look_up_asked.Goals as goal

pub look_up-requires : goal.look_up-requires
look_up-requires c =
    let (k, d) = c.args.t.described in
    asked_listed (delivered c.args.t) k d c.args.states (sym (c.asks_state.ensures k d) ∙ c.if-asks_state.true)

pub returns-then-asks_state : goal.returns-then-asks_state
returns-then-asks_state c k d = c.look_up.ensures k d (sym (c.asks_state.ensures k d) ∙ c.if-asks_state.true)

pub returns : goal.returns
returns c =
    λ k d.
    asked_none (instrument_of k) c.args.states (sym (c.asks_state.ensures k d) ∙ c.if-asks_state.false)

use Rattle.std.proofs.Common.{◌∙◌, get_or, ℕ}
use Rattle.meaning.specs.File.Grammar.{instrument_of}
use Rattle.meaning.proofs.Roots.{root_looked}
use Rattle.instrument.specs.Outline.{whole}
use Rattle.instrument.proofs.LastRoot.{last_node}
use Rattle.root_words.proofs.LastNode.{last_is, last_looked}
use Rattle.root_words.proofs.root_bit.Goals as goal

pub overflow_sub-root : goal.overflow_sub-root
overflow_sub-root c = last_node (whole c.args.t c.requires.0) c.requires.1 c.requires.2.describes

pub bit_at-requires : goal.bit_at-requires
bit_at-requires c =
    let (nexts, k, r, o) = c.requires in
    (nexts, _, k, r, last_is (whole c.args.t nexts) k r.describes, o)

pub returns : goal.returns
returns c =
    λ nexts k r.
    let t = whole c.args.t nexts in
    let states : ℕ → ℕ = λ i. get_or c.args.states i 0 in
    c.bit_at.ensures nexts _ k r (last_is t k r.describes) ∙ last_looked t k r.describes states ∙ root_looked (instrument_of k) states

use Rattle.root_words.proofs.LastNode.{root_ready}
use Rattle.value_queries.proofs.bit_of.Goals as goal

pub root_bit-requires : goal.root_bit-requires
root_bit-requires c =
    let (k, p, l) = c.requires.0 in
    (_, k, root_ready _ k p.describes _ p.named _ _ (c.write_root_words.ensures k p), c.requires.1)

pub returns : goal.returns
returns c k p = c.root_bit.ensures _ k (root_ready _ k p.describes _ p.named _ _ (c.write_root_words.ensures k p))

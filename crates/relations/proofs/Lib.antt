-- signals; the rule that a node's kind picks, for all nodes
pub mod Signals
pub mod NodeRelations
-- the lists of a component
pub mod Parts
-- what the relations mean
pub mod Meaning

-- The lent steps; rows of words; loops that fill them
pub mod Component
pub mod Padded
pub mod Filled
pub mod Rows
pub mod Row
pub mod Members
pub mod Changed
-- The rule of EX, EG and EU: matching of successors, one round
pub mod Agree
pub mod Matched
pub mod Ruled
-- What the definitions mean; a formula's relation from those of its operands
pub mod Meaning
pub mod Formulas

-- Which nodes are in the set
pub mod Members
-- The way down from the roots
pub mod Reaching
pub mod Root

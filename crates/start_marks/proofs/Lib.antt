-- arrays made by a closure, and tests of a range
pub mod Made
pub mod Ranged
-- the states of a start
pub mod States
-- the starts by marks
pub mod Starts

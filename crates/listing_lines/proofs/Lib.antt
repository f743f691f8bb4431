-- how long the lines are
pub mod Lengths
-- class lines from names that agree
pub mod Names

-- how long the pieces and the lines are
pub mod Lengths

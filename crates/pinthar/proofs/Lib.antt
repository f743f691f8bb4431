-- answers as numbers, and what an accepted number says
pub mod Codes
-- how many entries there are at most, so that a number has both parts
pub mod Counts

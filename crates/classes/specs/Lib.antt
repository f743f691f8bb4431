-- What the public contracts say
pub mod Rows
pub mod Related
-- What the parts and the loops of the code keep
pub mod Matching
pub mod Loops
pub mod Changed

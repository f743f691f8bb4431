-- What the public contracts say
pub mod Classes
-- What the loops of the code keep
pub mod Progress

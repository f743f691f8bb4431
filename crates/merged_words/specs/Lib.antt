-- What the public contracts say
pub mod Prepared
-- What the other functions write
pub mod Words

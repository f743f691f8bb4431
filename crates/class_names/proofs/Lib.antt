-- Names and count of classes
pub mod Naming
-- What the definitions mean
pub mod Meaning

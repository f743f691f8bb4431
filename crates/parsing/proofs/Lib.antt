pub mod Stores
pub mod Parts
pub mod Stays
pub mod Faults
pub mod Signals
pub mod Parsers
pub mod Times

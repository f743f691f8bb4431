pub mod Rules
pub mod Sweeps

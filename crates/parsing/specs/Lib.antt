pub mod Stages
pub mod Faults
pub mod Steps

pub mod Stages
pub mod Words
pub mod Steps

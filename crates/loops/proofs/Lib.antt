pub mod Building
pub mod Folded
pub mod Searched
pub mod Stored
pub mod Written
pub mod Parts

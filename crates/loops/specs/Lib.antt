pub mod Building
pub mod Folded
pub mod Written
pub mod Searched

pub mod Sets
pub mod Passing
pub mod First

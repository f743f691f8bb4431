-- what callers need of the names
pub mod Classes
-- the names of one component from the relation at the roots; of all components
pub mod Component
pub mod Naming
-- names written one component after the other
pub mod Entries
pub mod Summing

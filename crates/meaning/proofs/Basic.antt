-- Tests, decisions and fixed points; lists of entries.
pub mod Booleans
pub mod Bounded
pub mod Lists
pub mod Decides
pub mod Rounds
pub mod Equivalence
pub mod Entries

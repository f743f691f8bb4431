-- Marks: tested, right whatever the partners, atoms that are lawful.
pub mod Sets
pub mod Paths
pub mod Stays
pub mod Decided
pub mod Laws
pub mod Sound
pub mod Compared
pub mod Atoms
pub mod Partners

-- Paths, truth carried between systems, steps of a combination and of one table, and truth computed: the full way.
pub mod Paths
pub mod Transfer
pub mod Steps
pub mod TableSteps
pub mod TablePaths
pub mod Index
pub mod OnTable
pub mod Full

-- What a reader must believe, in the order of document 01.
pub mod Tests
-- The instrument file
pub mod Table
pub mod Formula
pub mod Atoms
pub mod Nodes
pub mod Instrument
pub mod File
-- Meaning
pub mod Paths
pub mod Combination
-- Marks
pub mod View
pub mod Seen
pub mod Marks
-- Classes
pub mod Relation
pub mod Classes
-- Merged tables
pub mod Merged
-- Verdict and listing
pub mod Verdict
-- Bench cases
pub mod Cases
-- The same as functions that compute; what they compute is proved to be the above.
pub mod Reference
-- Document 02: a list of roots
pub mod Roots
-- Cases of document 02
pub mod WideCases
pub mod StayCases
pub mod LampCases
-- The steps of one component as the engines are lent them
pub mod StepWords

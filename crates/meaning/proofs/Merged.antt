-- Merged tables: class numbers, the merged table of one component, marks in the merged combination, steps matched, and merged truth.
pub mod Numbers
pub mod Tables
pub mod Merging
pub mod Marks
pub mod Match
pub mod Truth
pub mod Computed

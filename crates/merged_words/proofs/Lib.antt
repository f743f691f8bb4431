-- The merged tables, their words cut to the nodes under the roots, and the lookup in them
pub mod Tables
pub mod Words
pub mod Lookup

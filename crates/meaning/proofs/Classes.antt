-- Classes: related states have the same marks, the relation and its class names, and all that is said of one table.
pub mod SameMarks
pub mod Rules
pub mod Largest
pub mod Equivalence
pub mod Names
pub mod Described
pub mod Coarser

-- Tables, formulas and nodes of an instrument file.
pub mod Tables
pub mod Formulas
pub mod Nodes
pub mod Promise
-- The grammar: lists, what parsers promise, accepted files, and the limit of what is read.
pub mod Lists
pub mod Progress
pub mod Parsers
pub mod Members
pub mod Driven
pub mod Numbers
pub mod Components
pub mod NodeLists
pub mod Reads
pub mod Accepted
pub mod Limit
pub mod Faults
-- Two spellings of a stay.
pub mod Filled
pub mod Spelling
-- How long a good file is: as its numbers are, at most `longest_file` bytes, and one has that many.
pub mod Sizes
pub mod Longest
pub mod Written
pub mod LongestFile
-- The pair and the chain as they are read.
pub mod Examples
-- A component's stretch of the file
pub mod Forward
pub mod Stretched
pub mod Ended

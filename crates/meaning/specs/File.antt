-- The grammar of the instrument file, what a reader promises, where a component stands, and two spellings of a stay.
pub mod Parser
pub mod Number
pub mod Grammar
pub mod Promise
pub mod Stretches
pub mod Spelling

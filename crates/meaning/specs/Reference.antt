-- Functions that compute what specs/ defines; a name that ends in B is the test of the definition of that name. That each decides its
-- definition is proved; a reader need not believe them.
pub mod Tests
pub mod Nodes
pub mod WellFormed
pub mod Marks
pub mod Relation
pub mod Truth
pub mod Merged
pub mod Verdict
pub mod Answers
pub mod Rules

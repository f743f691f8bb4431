-- Tests as words; rows of successor words as steps; the loops of EG and EU
pub mod Tests
pub mod Component
pub mod FixedPoints
-- the rules as the code makes them
pub mod Rules

-- what the reader answers
pub mod Outcomes
-- what its functions promise each other
pub mod Stages
pub mod Steps

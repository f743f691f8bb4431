-- the text of an outcome, and of an answer that was given
pub mod Outcomes
-- each question's text
pub mod Texts
pub mod Readings
pub mod Marks
-- the first bytes of an input settle its text
pub mod Settled

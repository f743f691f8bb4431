-- the text of an answer or a refusal
pub mod Told
-- how much is read
pub mod Settled

-- the starts by merged words
pub mod Holding
-- the order of the stages
pub mod Stages

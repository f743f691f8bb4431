-- the rules for a whole formula on a component's table
pub mod Formulas
pub mod Signals
pub mod Tables
-- for all nodes
pub mod Written
pub mod NodeMarks
-- for all components
pub mod Parts
pub mod AllMarks

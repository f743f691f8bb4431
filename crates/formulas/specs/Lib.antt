pub mod Stages
pub mod Formulas

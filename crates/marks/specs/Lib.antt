pub mod Formulas
pub mod Written
pub mod NodeMarks

pub mod Grammar
pub mod Layouts
pub mod Formulas
pub mod Counted

-- Truth of all nodes on tables that agree with the merged ones; the guard; the merged words
pub mod Agreeing
pub mod Guarded
pub mod Words
-- The classes that are barred, and all parts together
pub mod Barring
pub mod BarRows
pub mod Whole

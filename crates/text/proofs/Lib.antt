-- digits of numbers
pub mod Texts
-- pieces put one after the other by a loop
pub mod Appending

-- Sets united; pairs that fail; what is left falls
pub mod United
pub mod Failing
pub mod Sum
-- A look at a row keeps the work: by what it does, by the words that it stores; looks one after the other
pub mod RowLook
pub mod RowDelete
pub mod Looks
-- Start and end of the work
pub mod Fixed

-- What the work on a relation keeps
pub mod Again

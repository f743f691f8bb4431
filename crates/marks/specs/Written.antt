-- A list that a loop fills part by part.
pub use Rattle.loops.specs.Written.{Written}

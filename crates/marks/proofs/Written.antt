-- Laws of a list that a loop fills part by part.
pub use Rattle.loops.proofs.Written.{written_start, written_more, written_end, join_list, singles_more, singles_below, singles_past}

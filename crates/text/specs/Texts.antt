-- Bytes put behind those that a vector has.
use Rattle.std.specs.Prelude.{List, length, ℕ, ◌+◌, ◌≤◌}
use Rattle.arrayvec.specs.ArrayVec.{ArrayVec, array_vec_len}

-- a vector of so much capacity has room for these bytes too
abbrev pub Room : List ℕ → ℕ → ArrayVec ℕ → Type 0
Room l cap out = array_vec_len out + length l ≤ cap

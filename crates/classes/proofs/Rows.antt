-- Rows of a test of pairs: their bits, and when two are equal.
use mathlib.Core.Path.{◌≡◌, ap, ◌∙◌}
use mathlib.Core.Bool.{Bool}
use lib.ListN.{length, get_or}
use Prim.Native.Nat.{ℕ, ◌≤◌, ◌<◌}
use Rattle.words.specs.Sets.{has, built}
use Rattle.words.proofs.Built.{has_built, built_same}
use Rattle.meaning.specs.File.Grammar.{most_states}
use Rattle.classes.specs.Rows.{rel, rows}
use Rattle.classes.proofs.Padded.{length_padded, padded_at, padded_same}

pub length_rows : (n : ℕ) (b : ℕ → ℕ → Bool) → length (rows n b) ≡ most_states
unfolding rows
length_rows n b = length_padded most_states n (λ x. built n (b x))

pub row_at : (n : ℕ) (b : ℕ → ℕ → Bool) (x : ℕ) → n ≤ most_states → x < n → get_or (rows n b) x 0 ≡ built n (b x)
unfolding rows
row_at n b x m l = padded_at most_states n (λ x. built n (b x)) x l m

pub rel_rows_lem : (n : ℕ) (b : ℕ → ℕ → Bool) (x y : ℕ) → n ≤ most_states → x < n → y < n → rel (rows n b) x y ≡ b x y
rel_rows_lem n b x y m l k = ap (λ w. has w y) (row_at n b x m l) ∙ has_built n (b x) y k

-- tests that agree below n have the same rows
pub rows_same : (n : ℕ) (b c : ℕ → ℕ → Bool) → n ≤ most_states → ((x y : ℕ) → x < n → y < n → b x y ≡ c x y) → rows n b ≡ rows n c
unfolding rows
rows_same n b c m h = padded_same most_states n (λ x. built n (b x)) (λ x. built n (c x)) m (λ x l. built_same n (b x) (c x) (λ y k. h x y l k))

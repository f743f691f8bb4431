-- A number of the file: groups of seven bits, lowest first, the high bit set in every byte but the last; only the shortest form is good
-- (document 01, The instrument file; refusals 1 and 2).
use Rattle.std.specs.Prelude.{Bool, true, false, List, [], ◌∷◌, ltb, drop, ℕ, zero, suc, ◌+◌, ◌*◌, ◌%◌}
use Rattle.meaning.specs.File.Parser.{Got, found, fault, Parser}

abbrev pub choose : {A : Type 0} → Bool → A → A → A
choose true a b = a
choose false a b = b

-- a group with the groups above it: where those are 0 the form is not the shortest
abbrev pub with_higher : ℕ → Got ℕ → Got ℕ
with_higher g (found zero at) = fault 2
with_higher g (found (suc v) at) = found (g + 128 * suc v) at
with_higher g (fault r) = fault r

-- The number in these bytes, which begin at the place `at`: at most `more` + 1 groups, of which one in the last possible place is at most `top`
-- and has no byte after it.
unfoldable pub groups : ℕ → ℕ → List ℕ → ℕ → Got ℕ
groups top more [] at = fault 1
groups top zero (b ∷ bs) at = choose (ltb top b) (fault 2) (found b (suc at))
groups top (suc more) (b ∷ bs) at = choose (ltb b 128) (found b (suc at)) (with_higher (b % 128) (groups top more bs (suc at)))

-- the number at a place
abbrev pub number_with : ℕ → ℕ → Parser ℕ
number_with top more = λ file at. groups top more (drop at file) at

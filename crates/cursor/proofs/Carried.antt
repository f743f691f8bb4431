-- Carrying the groups read so far over those that follow: the laws of the loop that reads a number.
use mathlib.Core.Path.{◌≡◌, refl, sym, ap, ◌∙◌}
use mathlib.Core.List.{List}
use lib.ListN.{length, get_or}
use lib.Pow.{pow-add, pow_mono}
use native.Mathlib.Nat.{not-suc-le-zero, le_trans, mul-add, mul_assoc, mul-suc, mul-le-mul_left, mul-le-mul_right}
use native.Mathlib.Omega.{arith}
use borrow.Author.Tests.{lt-ltb}
use Prim.Native.Nat.{ℕ, zero, suc, ◌+◌, ◌-◌, ◌*◌, ◌%◌, ◌^◌, ◌≤◌, ◌<◌}
use Rattle.meaning.specs.File.Parser.{Got, found, fault}
use Rattle.meaning.specs.File.Number.{with_higher}
use Rattle.meaning.specs.File.Grammar.{limits}
use Rattle.cursor.specs.Carried.{carried, Carrying}
use Rattle.cursor.specs.Width.{number_end}
use Rattle.cursor.proofs.Numbers.{groups_at, goes_on}

module _ (weight value : ℕ) where
  -- a highest group that is not 0 ends a number
  pub carried_some : (v at : ℕ) → 0 < v → carried weight value (found v at) ≡ found (value + weight * v) at
  carried_some zero at h = absurd (not-suc-le-zero h)
  carried_some (suc v) at h = refl

  -- a group more is carried
  carried_more : (g : ℕ) (r : Got ℕ) → 0 < weight
      → carried weight value (with_higher g r) ≡ carried (weight * 128) (value + weight * g) r
  carried_more g (found zero at) h = rw (lt-ltb 1 (weight * 128) (omega arith))
  carried_more g (found (suc v) at) h =
      let e : value + weight * (g + 128 * suc v) ≡ value + weight * g + weight * 128 * suc v =
      omega (arith, mul-add weight g (128 * suc v), mul_assoc weight 128 (suc v)) in
      carried_some (g + 128 * suc v) at (omega arith) ∙ ap (λ (w : ℕ). found w at) e
  carried_more g (fault r) h = refl

module _ (file : List ℕ) (at more : ℕ) where
  module _ {value weight place left : ℕ} (d : Carrying file at more value weight place left) where
    -- what the groups from the present place on are says what the number is
    pub whole : (g : Got ℕ) → groups_at left file place ≡ g → groups_at more file at ≡ carried weight value g
    whole g e = d.same ∙ ap (carried weight value) e

    -- a group of at most so much leaves the value below as many weights and one more
    fits : (b top : ℕ) → b ≤ top → value + weight * b < weight * suc top
    fits b top h = omega (arith, mul-le-mul_left weight h, mul-suc weight top, d.below)

    weight_le : (k : ℕ) → 7 * (more - left) ≤ k → weight ≤ 2 ^ k
    weight_le k h = rw d.scale (pow_mono h)

    -- a group in the last possible place leaves the value a number of the file; before it there is room for every group, whatever it is
    pub last_room : (b : ℕ) → more ≤ limits.groups_before → b ≤ limits.last_group → value + weight * b < number_end
    last_room b m h =
        le_trans (fits b limits.last_group h) (mul-le-mul_right (suc limits.last_group) (weight_le (7 * limits.groups_before) (omega arith)))

    pub weight_room : more ≤ limits.groups_before → 0 < left → weight * 128 ≤ 2 ^ (7 * limits.groups_before)
    weight_room m l =
        omega (arith, weight_le (7 * (limits.groups_before - 1)) (omega (arith, d.reached)))

    pub room : (b : ℕ) → more ≤ limits.groups_before → 0 < left → b < 128 → value + weight * b < 2 ^ (7 * limits.groups_before)
    room b m l h = omega (arith, fits b 127 (omega arith), weight_room m l)

    pub next : place < length file → 0 < left → 128 ≤ get_or file place 0
        → Carrying file at more (value + weight * (get_or file place 0 % 128)) (weight * 128) (place + 1) (left - 1)
    next inside l h =
        let e : 7 * (more - (left - 1)) ≡ 7 * (more - left) + 7 = omega (arith, d.reached) in
        record {
          reached = omega (arith, d.reached);
          scale = ap (λ (w : ℕ). w * 128) d.scale ∙ sym (ap (λ (k : ℕ). 2 ^ k) e ∙ pow-add 2 (7 * (more - left)) 7);
          below = fits (get_or file place 0 % 128) 127 (omega arith);
          same =
              whole _ (goes_on file place inside left l h)
              ∙ carried_more weight value (get_or file place 0 % 128) (groups_at (left - 1) file (place + 1)) (omega (arith, d.below));
        }

-- The numbers of a line's words, taken one after the other.
use mathlib.Core.Path.{◌≡◌, refl, sym, ap, ◌∙◌}
use mathlib.Core.Bool.{Bool, true, false, ◌&&◌, cond}
use mathlib.Core.List.{List, [], ◌∷◌, ◌++◌, map, append_assoc}
use lib.ListN.{length, take, drop, length-append}
use native.Mathlib.Omega.{arith}
use Prim.Native.Nat.{ℕ, ◌+◌, ◌-◌, ◌≤◌}
use Rattle.answers.specs.Questions.{is_number, number_of, all_numbers}
use Rattle.std.specs.Prelude.{Some, None}
use Rattle.arguments.specs.Decimal.{number_in}
use Rattle.arguments.specs.Words.{Ends, words_from, Taken, Unfit, other, many}
use Rattle.arguments.proofs.Words.{next_word}

-- what an argument says of its text
pub record Is (w : List ℕ) (v : ℕ) : Type 0 where
  pub number : is_number w ≡ true
  pub value : v ≡ number_of w

is_number_lem : (w : List ℕ) (v : ℕ) → Some v ≡ number_in w → Is w v
unfolding number_in
is_number_lem w v e = go (is_number w) refl e
  where
    go : (b : Bool) → is_number w ≡ b → Some v ≡ cond b (Some (number_of w)) None → Is w v
    go true p e = let z : v ≡ number_of w = cc in record { number = p; value = z }
    go false p e = let z : ◌≡◌ {A = ℕ} 0 1 = cc in let y : ⊥ = omega arith in absurd y

no_number : (w : List ℕ) → None ≡ number_in w → is_number w ≡ false
unfolding number_in
no_number w e = go (is_number w) e
  where
    go : (b : Bool) → None ≡ cond b (Some (number_of w)) None → b ≡ false
    go true e = let z : ◌≡◌ {A = ℕ} 0 1 = cc in let y : ⊥ = omega arith in absurd y
    go false e = refl

module _ (line : List ℕ) (from : ℕ) where
  pub taken_start : (values : List ℕ) → values ≡ [] → from ≤ length line + 1 → Taken line from from values
  taken_start values e h = record { reached = h; numbers = refl; same = rw e refl; many = rw e (omega arith) }

  module _ {at end : ℕ} {values : List ℕ} (t : Taken line from at values) (h : Ends line at end) where
    abbrev word : List ℕ
    word = take (end - at) (drop at line)

    -- one more
    pub taken_more : (v : ℕ) → Some v ≡ number_in (take (end - at) (drop at line)) → Taken line from (end + 1) (values ++ (v ∷ []))
    taken_more v e =
        record {
          reached = omega (arith, h.clear.within);
          numbers = t.numbers ∙ ap all_numbers (next_word line at end h) ∙ ap (λ b. b && all_numbers (words_from line (end + 1))) (is_number_lem word v e).number;
          same =
              t.same ∙ ap (λ ws. values ++ map number_of ws) (next_word line at end h)
              ∙ ap (λ w. values ++ (w ∷ map number_of (words_from line (end + 1)))) (sym (is_number_lem word v e).value)
              ∙ sym (append_assoc values (v ∷ []) (map number_of (words_from line (end + 1))));
          many = omega (arith, t.many, ap length (next_word line at end h), length-append values (v ∷ []));
        }

    -- a word that is no number, or a ninth
    pub taken_other : None ≡ number_in (take (end - at) (drop at line)) → Unfit (words_from line from)
    taken_other e =
        other (t.numbers ∙ ap all_numbers (next_word line at end h) ∙ ap (λ b. b && all_numbers (words_from line (end + 1))) (no_number word e))

    pub taken_many : length values ≡ 8 → Unfit (words_from line from)
    taken_many e = many (omega (arith, t.many, ap length (next_word line at end h)))

-- Words read one after the other.
use mathlib.Core.Path.{◌≡◌, refl, sym, ap, ◌∙◌}
use mathlib.Core.Logic.{◌≢◌}
use mathlib.Core.Bool.{false, cond}
use mathlib.Core.List.{List, [], ◌∷◌}
use lib.Dec.{leb, eqb, is_le}
use lib.ListN.{length, get_or, take, drop, length-drop}
use lib.Seq.{get_or-drop, drop-drop}
use native.Mathlib.Decide.{dec_lt}
use native.Mathlib.Omega.{arith}
use borrow.Author.Tests.{le-leb, lt-leb, ne_eqb}
use Prim.Native.Nat.compare
use Prim.Native.Nat.{ℕ, zero, suc, ◌+◌, ◌-◌, ◌≤◌, ◌<◌}
use Rattle.std.specs.Prelude.{Option, Some, None}
use Rattle.std.specs.List.{AllWithin, HoldsAt}
use Rattle.std.specs.Option.{MatchOption}
use Rattle.answers.specs.Questions.{words_of}
use Rattle.arguments.specs.Words.{Ends, words_from}

-- the words after the first n bytes of a line and the space behind them
abbrev behind : ℕ → List ℕ → List (List ℕ)
behind n l = cond (leb (suc n) (length l)) (words_of (drop (suc n) l)) []

-- the first word of a line, and those after the space that ends it
words_split : (n : ℕ) (l : List ℕ) → n ≤ length l → ((i : ℕ) → i < n → get_or l i 0 ≢ 32) → (n < length l → get_or l n 0 ≡ 32)
    → words_of l ≡ take n l ∷ behind n l
unfolding words_of
words_split zero [] h dark stop = refl
words_split zero (b ∷ bs) h dark stop =
    let e : b ≡ 32 = stop (omega arith) in
    rw (e, le-leb 1 (suc (length bs)) (omega arith)) refl
words_split (suc n) [] h dark stop = absurd (omega arith)
words_split (suc n) (b ∷ bs) h dark stop =
    let e : eqb b 32 ≡ false = ne_eqb b 32 (dark 0 (omega arith)) in
    rw (e, words_split n bs (omega arith) (λ i l. dark (suc i) (omega arith)) (λ l. stop (omega arith)))
    (ap (λ b'. (b ∷ take n bs) ∷ cond b' (words_of (drop (suc n) bs)) []) (sym (ap is_le (compare.suc-suc (suc n) (length bs)))))

-- a word that ends there is the first from its place on; the others begin after the space
pub next_word : (line : List ℕ) (from end : ℕ) → Ends line from end
    → words_from line from ≡ take (end - from) (drop from line) ∷ words_from line (end + 1)
next_word line from end h =
    rw (le-leb from (length line) (omega (arith, h.clear.after, h.clear.within)))
    (words_split n d (omega (arith, h.clear.after, h.clear.within, length-drop from line)) (λ i l e.
    h.clear.none (from + i) (omega arith) (omega (arith, h.clear.after)) (sym (get_or-drop from line i 0) ∙ e))
    (λ l. get_or-drop from line n 0 ∙ ap (λ k. get_or line k 0) there ∙ h.stop (omega (arith, h.clear.after, length-drop from line)))
    ∙ ap (λ ws. take n d ∷ ws) rest)
  where
    n : ℕ
    n = end - from

    d : List ℕ
    d = drop from line

    there : from + n ≡ end
    there = omega (arith, h.clear.after)

    after : from + suc n ≡ end + 1
    after = omega (arith, h.clear.after)

    rest : behind n d ≡ words_from line (end + 1)
    rest =
        elim (dec_lt end (length line)) [
          | yes l ↦
              rw (le-leb (suc n) (length d) (omega (arith, h.clear.after, length-drop from line)), le-leb (end + 1) (length line) (omega arith))
              (ap words_of (drop-drop (suc n) from line ∙ ap (λ k. drop k line) after))
          | no l ↦
              rw (lt-leb (suc n) (length d) (omega (arith, h.clear.after, length-drop from line)), lt-leb (end + 1) (length line) (omega arith)) refl
        ]

-- the words of a whole line
pub first_word : (line : List ℕ) (end : ℕ) → Ends line 0 end → words_of line ≡ take end line ∷ words_from line (end + 1)
first_word line end h =
    let e : end - 0 ≡ end = omega arith in
    sym (ap (λ b. cond b (words_of line) []) (le-leb 0 (length line) (omega arith))) ∙ next_word line 0 end h
    ∙ ap (λ k. take k line ∷ words_from line (end + 1)) e

-- where a word ends: the first space behind its place, or the end of the line
pub word_ends : (line : List ℕ) (from : ℕ) (r : Option ℕ) → from ≤ length line
    → MatchOption r (AllWithin (λ b. b ≡ 32 → ⊥) (drop from line) 0 (length (drop from line)))
    (λ i. (i < length (drop from line)) × HoldsAt (λ b. b ≡ 32) (drop from line) i × AllWithin (λ b. b ≡ 32 → ⊥) (drop from line) 0 i)
    → MatchOption r (Ends line from (length line)) (λ i. Ends line from (from + i))
word_ends line from r h f = go r f
  where
    here : (i : ℕ) → from ≤ i → get_or line i 0 ≡ 32 → get_or (drop from line) (i - from) 0 ≡ 32
    here i l e = let s : from + (i - from) ≡ i = omega arith in get_or-drop from line (i - from) 0 ∙ ap (λ k. get_or line k 0) s ∙ e

    go : (r : Option ℕ)
        → MatchOption r (AllWithin (λ b. b ≡ 32 → ⊥) (drop from line) 0 (length (drop from line)))
        (λ i. (i < length (drop from line)) × HoldsAt (λ b. b ≡ 32) (drop from line) i × AllWithin (λ b. b ≡ 32 → ⊥) (drop from line) 0 i)
        → MatchOption r (Ends line from (length line)) (λ i. Ends line from (from + i))
    go None f =
        record {
          clear = record { after = h; within = omega arith; none = λ i a b e. f (i - from) 0 (omega arith) (omega (arith, length-drop from line)) (here i a e) };
          stop = λ l. absurd (omega arith);
        }
    go (Some n) f =
        record {
          clear =
              record {
                after = omega arith;
                within = omega (arith, f.0, length-drop from line);
                none = λ i a b e. f.2 (i - from) 0 (omega arith) (omega arith) (here i a e);
              };
          stop = λ l. sym (get_or-drop from line n 0) ∙ f.1 0;
        }

-- Cases of 2/14 (document 02): an empty successor set means the state itself, and 6 is for bits too high alone.
use Rattle.std.specs.Prelude.{List, [], ◌∷◌, ◌++◌, replicate, ℕ, suc, ◌^◌}
use Rattle.meaning.specs.Cases.{Case, Fact, refused, pass, fail, classes, full_words, merged_words, combinations, verdict}
use Rattle.meaning.specs.Verdict.{judged, holds, fails, marks, merged}

abbrev row : List ℕ → Fact → Case
row file f = record { file = file; fact = f }

-- the chain where state 2 has the empty set: EG p and EX p
abbrev pub empty_chain : List ℕ → List ℕ
empty_chain formula = (1 ∷ 1 ∷ 3 ∷ 0 ∷ 1 ∷ 0 ∷ 1 ∷ 1 ∷ 0 ∷ 2 ∷ 4 ∷ 0 ∷ []) ++ (formula ++ (1 ∷ 0 ∷ []))

abbrev pub empty_eg : List ℕ
empty_eg = empty_chain (2 ∷ 1 ∷ 0 ∷ 5 ∷ 0 ∷ [])

abbrev pub empty_ex : List ℕ
empty_ex = empty_chain (2 ∷ 1 ∷ 0 ∷ 4 ∷ 0 ∷ [])

-- the pair with these sets of component 0, state 0 on both assignments and then state 1, and the bytes of the starts
abbrev pub pair_with : List ℕ → List ℕ → List ℕ
pair_with sets starts =
    (2 ∷ 2 ∷ 2 ∷ 1 ∷ 1 ∷ 1 ∷ 0 ∷ 1 ∷ 0 ∷ []) ++ (sets ++ ((2 ∷ 0 ∷ 1 ∷ 1 ∷ 1 ∷ 0 ∷ 3 ∷ 2 ∷ 2 ∷ 1 ∷ 0 ∷ 5 ∷ 0 ∷ []) ++ starts))

-- the pair's stays as empty sets; the one of state 0 on assignment 1 alone; others
abbrev pub empty_pair : List ℕ → List ℕ
empty_pair starts = pair_with (2 ∷ 0 ∷ 0 ∷ 0 ∷ []) starts

abbrev pub odd_pair : List ℕ → List ℕ
odd_pair starts = pair_with (2 ∷ 0 ∷ 2 ∷ 2 ∷ []) starts

abbrev pub other_pair : List ℕ
other_pair = pair_with (0 ∷ 1 ∷ 2 ∷ 0 ∷ []) (1 ∷ 0 ∷ 0 ∷ [])

-- so many states, of which the last has a signal and the empty set, and each other one goes to state 0; EX of the signal
abbrev pub last_stays : ℕ → List ℕ
last_stays before =
    (1 ∷ 1 ∷ suc before ∷ 0 ∷ 1 ∷ 0 ∷ []) ++ (replicate before 0 ++ ((1 ∷ []) ++ (replicate before 1 ++ ((0 ∷ []) ++ (2 ∷ 1 ∷ 0 ∷ 4 ∷ 0 ∷ 0 ∷ [])))))

-- two states without signals, from the beginning of the file to their output words
abbrev pub two : List ℕ
two = 1 ∷ 0 ∷ 2 ∷ 0 ∷ 0 ∷ 0 ∷ 0 ∷ []

abbrev pub stay_cases : List Case
stay_cases =
    row empty_eg (pass 0 0)
    ∷ row empty_eg (fail 0 7)
    ∷ row empty_eg (merged_words (1 ∷ 0 ∷ []))
    ∷ row empty_eg (classes 0 (0 ∷ 0 ∷ 2 ∷ []))
    ∷ row empty_eg (combinations 2 3)
    ∷ row empty_eg (verdict (judged fails marks))
    ∷ row empty_ex (pass 0 1)
    ∷ row empty_ex (fail 0 6)
    ∷ row (empty_pair (1 ∷ 0 ∷ 0 ∷ [])) (full_words (3 ∷ 0 ∷ 1 ∷ 0 ∷ []))
    ∷ row (empty_pair (1 ∷ 0 ∷ 0 ∷ [])) (verdict (judged holds merged))
    ∷ row (empty_pair (1 ∷ 0 ∷ 1 ∷ [])) (verdict (judged fails merged))
    ∷ row (empty_pair (1 ∷ 1 ∷ 0 ∷ [])) (verdict (judged fails marks))
    ∷ row (odd_pair (1 ∷ 0 ∷ 0 ∷ [])) (full_words (3 ∷ 0 ∷ 1 ∷ 0 ∷ []))
    ∷ row other_pair (full_words (3 ∷ 0 ∷ 3 ∷ 0 ∷ []))
    ∷ row (last_stays 31) (pass 0 (2 ^ 31))
    ∷ row (last_stays 63) (pass 0 (2 ^ 63))
    -- a bit too high after an empty set, before one, and both sets good, after which the file ends
    ∷ row (two ++ (0 ∷ 4 ∷ [])) (refused 6)
    ∷ row (two ++ (4 ∷ 0 ∷ [])) (refused 6)
    ∷ row (two ++ (0 ∷ 3 ∷ [])) (refused 1)
    ∷ row (two ++ (0 ∷ 0 ∷ [])) (refused 1)
    -- an empty set is a number like others: it can be missing, or not in its shortest form
    ∷ row (two ++ (0 ∷ [])) (refused 1)
    ∷ row (two ++ (128 ∷ 0 ∷ [])) (refused 2)
    -- all sets empty, then an unknown kind, and a file that is good
    ∷ row (two ++ (0 ∷ 0 ∷ 1 ∷ 7 ∷ [])) (refused 7)
    ∷ row (two ++ (0 ∷ 0 ∷ 1 ∷ 0 ∷ 0 ∷ [])) (classes 0 (0 ∷ 0 ∷ []))
    ∷ []

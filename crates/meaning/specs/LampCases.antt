-- Cases of 3/14 (document 02): lamps that nothing reads, and outputs that another component lists as an input.
use Rattle.std.specs.Prelude.{List, [], ◌∷◌, ◌++◌, ℕ}
use Rattle.meaning.specs.Cases.{Case, Fact, classes, combinations, full_words, merged_words, were_classes}

abbrev row : List ℕ → Fact → Case
row file f = record { file = file; fact = f }

-- a component of two states that stay, alike but for the lamp, signal 0
abbrev lamp_only : List ℕ
lamp_only = 2 ∷ 0 ∷ 1 ∷ 0 ∷ 0 ∷ 1 ∷ 1 ∷ 2 ∷ []

-- A component that drives signal 1, high in its state 0 alone. It goes from each state to the other and reads nothing;
abbrev other : List ℕ
other = 2 ∷ 0 ∷ 1 ∷ 1 ∷ 1 ∷ 0 ∷ 2 ∷ 1 ∷ []

-- it lists the lamp as an input, and goes as before;
abbrev listing : List ℕ
listing = 2 ∷ 1 ∷ 0 ∷ 1 ∷ 1 ∷ 1 ∷ 0 ∷ 2 ∷ 2 ∷ 1 ∷ 1 ∷ []

-- it stays where the lamp is high.
abbrev obeying : List ℕ
obeying = 2 ∷ 1 ∷ 0 ∷ 1 ∷ 1 ∷ 1 ∷ 0 ∷ 2 ∷ 1 ∷ 1 ∷ 2 ∷ []

-- EG of signal 1, EX of it, true EU it; EG of the lamp or it
abbrev stays : List ℕ
stays = 2 ∷ 1 ∷ 1 ∷ 5 ∷ 0 ∷ []

abbrev next : List ℕ
next = 2 ∷ 1 ∷ 1 ∷ 4 ∷ 0 ∷ []

abbrev reaches : List ℕ
reaches = 3 ∷ 0 ∷ 1 ∷ 1 ∷ 6 ∷ 0 ∷ 1 ∷ []

abbrev names : List ℕ
names = 4 ∷ 1 ∷ 0 ∷ 1 ∷ 1 ∷ 3 ∷ 0 ∷ 1 ∷ 5 ∷ 2 ∷ []

-- two components over signals 0 and 1, the formula, one start
abbrev two : List ℕ → List ℕ → List ℕ → List ℕ
two first second formula = (2 ∷ 2 ∷ []) ++ (first ++ (second ++ (formula ++ (1 ∷ 0 ∷ 0 ∷ []))))

-- three states that stay, with outputs 0 to 7; component 1 drives signal 8 as `listing` does and lists the signal `read`; EX of signal 8
abbrev pub eight : List ℕ → ℕ → List ℕ
eight words read =
    (2 ∷ 9 ∷ 3 ∷ 0 ∷ 8 ∷ 0 ∷ 1 ∷ 2 ∷ 3 ∷ 4 ∷ 5 ∷ 6 ∷ 7 ∷ [])
    ++ (words ++ ((1 ∷ 2 ∷ 4 ∷ 2 ∷ 1 ∷ []) ++ ((read ∷ []) ++ (1 ∷ 8 ∷ 1 ∷ 0 ∷ 2 ∷ 2 ∷ 1 ∷ 1 ∷ 2 ∷ 1 ∷ 8 ∷ 4 ∷ 0 ∷ 1 ∷ 0 ∷ 0 ∷ []))))

-- one component alone, of two states with signal 2 and one without, that goes there where the external signal 0 is high; the first two differ in
-- a lamp, signal 1; EX of signal 2
abbrev pub alone : List ℕ
alone = 1 ∷ 3 ∷ 3 ∷ 1 ∷ 0 ∷ 2 ∷ 1 ∷ 2 ∷ 2 ∷ 3 ∷ 0 ∷ 1 ∷ 4 ∷ 2 ∷ 4 ∷ 4 ∷ 4 ∷ 2 ∷ 1 ∷ 2 ∷ 4 ∷ 0 ∷ 1 ∷ 0 ∷ []

abbrev pub lamp_cases : List Case
lamp_cases =
    -- listed as an input counts, though no step depends on it: read by a later component only, and by an earlier one only
    row (two lamp_only listing stays) (classes 0 (0 ∷ 1 ∷ []))
    ∷ row (two lamp_only listing stays) (combinations 4 4)
    ∷ row (two listing lamp_only stays) (classes 1 (0 ∷ 1 ∷ []))
    ∷ row (two other lamp_only stays) (classes 1 (0 ∷ 0 ∷ []))
    -- a partner that uses the lamp tells the two states apart, in truth too
    ∷ row (two lamp_only obeying stays) (classes 0 (0 ∷ 1 ∷ []))
    ∷ row (two lamp_only obeying stays) (full_words (1 ∷ 3 ∷ 0 ∷ 0 ∷ []))
    -- EX and EU
    ∷ row (two lamp_only other next) (were_classes 0 (0 ∷ 1 ∷ []))
    ∷ row (two lamp_only other next) (classes 0 (0 ∷ 0 ∷ []))
    ∷ row (two lamp_only other reaches) (were_classes 0 (0 ∷ 1 ∷ []))
    ∷ row (two lamp_only other reaches) (classes 0 (0 ∷ 0 ∷ []))
    -- the formula names the lamp: its level is kept at the signal node
    ∷ row (two lamp_only other names) (classes 0 (0 ∷ 1 ∷ []))
    ∷ row (two lamp_only other names) (merged_words (6 ∷ 15 ∷ 0 ∷ 13 ∷ []))
    -- of eight outputs the last alone is read, then the first alone
    ∷ row (eight (0 ∷ 127 ∷ 128 ∷ 1 ∷ []) 7) (classes 0 (0 ∷ 0 ∷ 2 ∷ []))
    ∷ row (eight (0 ∷ 127 ∷ 128 ∷ 1 ∷ []) 7) (were_classes 0 (0 ∷ 1 ∷ 2 ∷ []))
    ∷ row (eight (0 ∷ 254 ∷ 1 ∷ 1 ∷ []) 0) (classes 0 (0 ∷ 0 ∷ 2 ∷ []))
    -- nothing is compared of a component that is alone
    ∷ row alone (were_classes 0 (0 ∷ 1 ∷ 2 ∷ []))
    ∷ row alone (classes 0 (0 ∷ 0 ∷ 2 ∷ []))
    ∷ []

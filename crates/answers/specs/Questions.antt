-- What is asked of an instrument file, as a line of words with one space (byte 32) between them: `full`, `lookup 0 1 0 0`. Numbers are decimal.
use Rattle.std.specs.Prelude.{Bool, true, false, ◌&&◌, cond, List, [], ◌∷◌, map, leb, eqb, length, get_or, ℕ, zero, suc, ◌+◌, ◌-◌, ◌*◌}
use Rattle.meaning.specs.Reference.Tests.{all_below}

-- a byte in front of the first word
abbrev pub begun : ℕ → List (List ℕ) → List (List ℕ)
begun b [] = (b ∷ []) ∷ []
begun b (w ∷ ws) = (b ∷ w) ∷ ws

-- the words of a line: a space ends one and begins the next, so that two spaces have an empty word between them
unfoldable pub words_of : List ℕ → List (List ℕ)
words_of [] = [] ∷ []
words_of (b ∷ bs) = cond (eqb b 32) ([] ∷ words_of bs) (begun b (words_of bs))

-- byte i is one of the ten digits
abbrev pub digit_at : List ℕ → ℕ → Bool
digit_at text i = leb 48 (get_or text i 0) && leb (get_or text i 0) 57

-- the value of the first n bytes as digits, the first of them the most significant
abbrev pub value_before : List ℕ → ℕ → ℕ
value_before text zero = 0
value_before text (suc n) = 10 * value_before text n + (get_or text n 0 - 48)

-- a number: one to ten bytes, all of them digits, and a value that 32 bits hold
abbrev pub is_number : List ℕ → Bool
is_number text =
    leb 1 (length text) && (leb (length text) 10
    && (all_below (length text) (digit_at text) && leb (value_before text (length text)) 4294967295))

abbrev pub number_of : List ℕ → ℕ
number_of text = value_before text (length text)

abbrev pub all_numbers : List (List ℕ) → Bool
all_numbers [] = true
all_numbers (w ∷ ws) = is_number w && all_numbers ws

-- the questions; what is none is unknown
pub data Question : Type 0 where
  full : Question
  marks : Question
  classes : Question
  merged : Question
  listing : Question
  verdict : Question
  stretch : ℕ → Question
  lookup : ℕ → ℕ → ℕ → ℕ → Question
  unknown : Question

-- these two words are the same
abbrev pub same_bytes : List ℕ → List ℕ → Bool
same_bytes [] [] = true
same_bytes [] (b ∷ m) = false
same_bytes (a ∷ l) [] = false
same_bytes (a ∷ l) (b ∷ m) = eqb a b && same_bytes l m

-- "full", "marks", "classes", "merged", "listing", "verdict", "stretch", "lookup"
abbrev pub word_full : List ℕ
word_full = 102 ∷ 117 ∷ 108 ∷ 108 ∷ []

abbrev pub word_marks : List ℕ
word_marks = 109 ∷ 97 ∷ 114 ∷ 107 ∷ 115 ∷ []

abbrev pub word_classes : List ℕ
word_classes = 99 ∷ 108 ∷ 97 ∷ 115 ∷ 115 ∷ 101 ∷ 115 ∷ []

abbrev pub word_merged : List ℕ
word_merged = 109 ∷ 101 ∷ 114 ∷ 103 ∷ 101 ∷ 100 ∷ []

abbrev pub word_listing : List ℕ
word_listing = 108 ∷ 105 ∷ 115 ∷ 116 ∷ 105 ∷ 110 ∷ 103 ∷ []

abbrev pub word_verdict : List ℕ
word_verdict = 118 ∷ 101 ∷ 114 ∷ 100 ∷ 105 ∷ 99 ∷ 116 ∷ []

abbrev pub word_stretch : List ℕ
word_stretch = 115 ∷ 116 ∷ 114 ∷ 101 ∷ 116 ∷ 99 ∷ 104 ∷ []

abbrev pub word_lookup : List ℕ
word_lookup = 108 ∷ 111 ∷ 111 ∷ 107 ∷ 117 ∷ 112 ∷ []

-- a word alone
abbrev pub plain : List ℕ → Question
plain w =
    cond (same_bytes w word_full) full
    (cond (same_bytes w word_marks) marks
    (cond (same_bytes w word_classes) classes
    (cond (same_bytes w word_merged) merged
    (cond (same_bytes w word_listing) listing
    (cond (same_bytes w word_verdict) verdict unknown)))))

-- a word and numbers: a component, or one state of each of four components
abbrev pub about : List ℕ → List ℕ → Question
about w [] = plain w
about w (c ∷ []) = cond (same_bytes w word_stretch) (stretch c) unknown
about w (a ∷ b ∷ []) = unknown
about w (a ∷ b ∷ c ∷ []) = unknown
about w (s0 ∷ s1 ∷ s2 ∷ s3 ∷ []) = cond (same_bytes w word_lookup) (lookup s0 s1 s2 s3) unknown
about w (s0 ∷ s1 ∷ s2 ∷ s3 ∷ s4 ∷ more) = unknown

abbrev pub asked_by : List (List ℕ) → Question
asked_by [] = unknown
asked_by (w ∷ ws) = cond (all_numbers ws) (about w (map number_of ws)) unknown

-- the question that a line asks
unfoldable pub question_of : List ℕ → Question
question_of line = asked_by (words_of line)

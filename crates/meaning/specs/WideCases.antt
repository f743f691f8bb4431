-- Cases of 12/14 (document 02): numbers of up to ten bytes at every field of a file, and components of 64 states.
use Rattle.std.specs.Prelude.{List, [], ◌∷◌, ◌++◌, replicate, ℕ, ◌^◌, ◌-◌}
use Rattle.meaning.specs.Reference.Answers.{join_below}
use Rattle.meaning.specs.Cases.{Case, Fact, refused, pass, fail, classes, combinations}

-- the bytes before a field, and the number of its own refusal
pub record Field : Type 0 where
  pub before : List ℕ
  pub cause : ℕ

abbrev field : List ℕ → ℕ → Field
field before cause = record { before = before; cause = cause }

-- a component of one state without signals: from the number of components to its successor set
abbrev one : List ℕ
one = 1 ∷ 0 ∷ 1 ∷ 0 ∷ 0 ∷ 0 ∷ 1 ∷ []

-- every field of a file, in its order: counts, listed signals, words, nodes, starts
abbrev pub fields : List Field
fields =
    -- components; signals; states; inputs; an input; outputs; an output
    field [] 3
    ∷ field (1 ∷ []) 3
    ∷ field (1 ∷ 0 ∷ []) 3
    ∷ field (1 ∷ 0 ∷ 1 ∷ []) 3
    ∷ field (1 ∷ 2 ∷ 1 ∷ 1 ∷ []) 4
    ∷ field (1 ∷ 0 ∷ 1 ∷ 0 ∷ []) 3
    ∷ field (1 ∷ 2 ∷ 1 ∷ 0 ∷ 1 ∷ []) 4
    -- an output word; a successor set
    ∷ field (1 ∷ 0 ∷ 1 ∷ 0 ∷ 0 ∷ []) 6
    ∷ field (1 ∷ 0 ∷ 1 ∷ 0 ∷ 0 ∷ 0 ∷ []) 6
    -- nodes; a kind; an operand; the second operand; a signal as operand
    ∷ field one 3
    ∷ field (one ++ (1 ∷ [])) 7
    ∷ field (one ++ (2 ∷ 0 ∷ 2 ∷ [])) 7
    ∷ field (one ++ (2 ∷ 0 ∷ 3 ∷ 0 ∷ [])) 7
    ∷ field (one ++ (1 ∷ 1 ∷ [])) 8
    -- starts; a state of a start
    ∷ field (one ++ (1 ∷ 0 ∷ [])) 3
    ∷ field (one ++ (1 ∷ 0 ∷ 1 ∷ [])) 9
    ∷ []

-- 2^32 in five bytes, 2^62 in nine, 2^63 and 2^64 - 1 in ten: each fits 64 bits, and none is good at any field
abbrev pub oversized : List (List ℕ)
oversized =
    (128 ∷ 128 ∷ 128 ∷ 128 ∷ 16 ∷ [])
    ∷ (replicate 8 128 ++ (64 ∷ []))
    ∷ (replicate 9 128 ++ (1 ∷ []))
    ∷ (replicate 9 255 ++ (1 ∷ []))
    ∷ []

-- a tenth byte above 1, with no byte after it, with one, and as one that is continued; a tenth byte 0; 0 in two bytes
abbrev pub malformed : List (List ℕ)
malformed =
    (replicate 9 128 ++ (2 ∷ []))
    ∷ (replicate 9 255 ++ (2 ∷ 0 ∷ []))
    ∷ (replicate 9 255 ++ (129 ∷ 1 ∷ []))
    ∷ (replicate 9 128 ++ (0 ∷ []))
    ∷ (128 ∷ 0 ∷ [])
    ∷ []

-- one byte, and nine bytes, of which the last is continued, and the file ends
abbrev pub unended : List (List ℕ)
unended = (128 ∷ []) ∷ replicate 9 255 ∷ []

abbrev at : List ℕ → Fact → Case
at file fact = record { file = file; fact = fact }

-- the number at the field, the file ends there or goes on
abbrev refused_at : (Field → ℕ) → Field → List (List ℕ) → List Case
refused_at cause f [] = []
refused_at cause f (bytes ∷ rest) =
    at (f.before ++ bytes) (refused (cause f)) ∷ at (f.before ++ (bytes ++ (0 ∷ 0 ∷ []))) (refused (cause f)) ∷ refused_at cause f rest

abbrev ended_at : Field → List (List ℕ) → List Case
ended_at f [] = []
ended_at f (bytes ∷ rest) = at (f.before ++ bytes) (refused 1) ∷ ended_at f rest

abbrev field_cases : List Field → List Case
field_cases [] = []
field_cases (f ∷ rest) = refused_at (λ f. f.cause) f oversized ++ (refused_at (λ f. 2) f malformed ++ (ended_at f unended ++ field_cases rest))

-- one component of so many states without signals, each with this successor set, and the formula true
abbrev pub loose : ℕ → List ℕ → List ℕ
loose states set = (1 ∷ 0 ∷ states ∷ 0 ∷ 0 ∷ []) ++ (replicate states 0 ++ (join_below states (λ x. set) ++ (1 ∷ 0 ∷ 0 ∷ [])))

-- 2^64 - 1, 2^63 and 2^63 - 1
abbrev pub every : List ℕ
every = replicate 9 255 ++ (1 ∷ [])

abbrev pub last : List ℕ
last = replicate 9 128 ++ (1 ∷ [])

abbrev pub all_but_last : List ℕ
all_but_last = replicate 8 255 ++ (127 ∷ [])

-- 64 states are good and 65 are not; a set with a bit too high for 63 states, and the largest that they may have
abbrev size_cases : List Case
size_cases =
    at (loose 64 every) (combinations 1 64)
    ∷ at (loose 64 every) (pass 0 (2 ^ 64 - 1))
    ∷ at (loose 64 last) (fail 0 0)
    ∷ at (loose 64 last) (classes 0 (replicate 64 0))
    ∷ at (1 ∷ 0 ∷ 64 ∷ []) (refused 1)
    ∷ at (1 ∷ 0 ∷ 65 ∷ []) (refused 3)
    ∷ at (loose 63 all_but_last) (pass 0 (2 ^ 63 - 1))
    ∷ at (loose 63 last) (refused 6)
    ∷ at (loose 63 every) (refused 6)
    ∷ []

abbrev pub wide_cases : List Case
wide_cases = field_cases fields ++ size_cases

-- The text of the listing program (document 01, Verdict and listing): a line for the verdict with its stage, a line of class names for each
-- component, a line with the merged and the full size; each ends with byte 10. A refusal prints one line instead.
use Rattle.std.specs.Prelude.{cond, List, [], ◌∷◌, ◌++◌, ltb, ℕ, zero, suc, ◌+◌, ◌/◌, ◌%◌}
use Rattle.meaning.specs.Instrument.{Instrument, components, table}
use Rattle.meaning.specs.Verdict.{Verdict, Stage, holds, fails, marks, merged}
use Rattle.meaning.specs.File.Grammar.{read_file}
use Rattle.meaning.specs.Reference.Answers.{join_below, full_count, classes_at, merged_size}
use Rattle.answers.specs.Buffers.{Outcome, refused, fitting}
use Rattle.answers.specs.Outcomes.{Reply, given, denied, Judgement, judgement, verdict_of, after}

-- the decimal digits of a number, of at most so many places: "0" to "9" are bytes 48 to 57
abbrev pub digits_of : ℕ → ℕ → List ℕ
digits_of zero v = []
digits_of (suc places) v = cond (ltb v 10) [] (digits_of places (v / 10)) ++ ((48 + v % 10) ∷ [])

-- a number that 64 bits hold has at most twenty
abbrev pub most_digits : ℕ
most_digits = 20

unfoldable pub decimal : ℕ → List ℕ
decimal v = digits_of most_digits v

abbrev pub line_end : List ℕ
line_end = 10 ∷ []

abbrev pub space : List ℕ
space = 32 ∷ []

-- "holds", "fails"
abbrev pub verdict_word : Verdict → List ℕ
verdict_word holds = 104 ∷ 111 ∷ 108 ∷ 100 ∷ 115 ∷ []
verdict_word fails = 102 ∷ 97 ∷ 105 ∷ 108 ∷ 115 ∷ []

-- "marks", "merged"
abbrev pub stage_word : Stage → List ℕ
stage_word marks = 109 ∷ 97 ∷ 114 ∷ 107 ∷ 115 ∷ []
stage_word merged = 109 ∷ 101 ∷ 114 ∷ 103 ∷ 101 ∷ 100 ∷ []

-- "verdict ", "component ", " classes", "merged ", " of ", "refused "
abbrev pub verdict_label : List ℕ
verdict_label = 118 ∷ 101 ∷ 114 ∷ 100 ∷ 105 ∷ 99 ∷ 116 ∷ 32 ∷ []

abbrev pub component_label : List ℕ
component_label = 99 ∷ 111 ∷ 109 ∷ 112 ∷ 111 ∷ 110 ∷ 101 ∷ 110 ∷ 116 ∷ 32 ∷ []

abbrev pub classes_label : List ℕ
classes_label = 32 ∷ 99 ∷ 108 ∷ 97 ∷ 115 ∷ 115 ∷ 101 ∷ 115 ∷ []

abbrev pub merged_label : List ℕ
merged_label = 109 ∷ 101 ∷ 114 ∷ 103 ∷ 101 ∷ 100 ∷ 32 ∷ []

abbrev pub of_label : List ℕ
of_label = 32 ∷ 111 ∷ 102 ∷ 32 ∷ []

abbrev pub refused_label : List ℕ
refused_label = 114 ∷ 101 ∷ 102 ∷ 117 ∷ 115 ∷ 101 ∷ 100 ∷ 32 ∷ []

-- "verdict fails marks"
abbrev pub verdict_line : Judgement → List ℕ
verdict_line j = verdict_label ++ (verdict_word j.verdict ++ (space ++ (stage_word j.stage ++ line_end)))

-- "component 0 classes 0 0 2": the names of so many states of component i
abbrev pub class_line : ℕ → ℕ → (ℕ → ℕ) → List ℕ
class_line i states names =
    component_label ++ (decimal i ++ (classes_label ++ (join_below states (λ x. space ++ decimal (names x)) ++ line_end)))

-- "merged 2 of 3"
abbrev pub size_line : ℕ → ℕ → List ℕ
size_line m f = merged_label ++ (decimal m ++ (of_label ++ (decimal f ++ line_end)))

-- "refused 1"
unfoldable pub refusal_line_of : ℕ → List ℕ
refusal_line_of r = refused_label ++ (decimal r ++ line_end)

-- the class lines of all components
abbrev pub class_lines : Instrument → List ℕ
class_lines I = join_below (components I) (λ i. class_line i (table I i).states (classes_at I i))

-- all lines
unfoldable pub listing_text : Instrument → Judgement → List ℕ
listing_text I j = verdict_line j ++ (class_lines I ++ size_line (merged_size I) (full_count I))

-- refused as the verdict is; then 13 if the text does not fit
abbrev pub listed : Instrument → ℕ → Reply Judgement → Outcome
listed I room (given j) = fitting room (listing_text I j)
listed I room (denied r) = refused r

unfoldable pub listing_outcome : List ℕ → ℕ → Outcome
listing_outcome file room = after (read_file file) (λ I. listed I room (judgement (verdict_of I)))

-- The lines that the programs print for the questions other than the listing and the class names (specs/Listing): words, marks, bytes of the file,
-- the lookup and the verdict. Each line ends with byte 10. A refusal is the line `refused N`.
use Rattle.std.specs.Prelude.{Bool, true, false, cond, List, [], ◌∷◌, ◌++◌, ltb, length, get_or, ℕ, zero, suc, ◌+◌, ◌*◌, ◌/◌, ◌%◌}
use Rattle.meaning.specs.Reference.Answers.{join_below}
use Rattle.answers.specs.Outcomes.{Reply, given, denied, Judgement}
use Rattle.answers.specs.Listing.{decimal, space, line_end, component_label, verdict_word, stage_word, refusal_line_of}

-- word i of a line: a space stands before every word but the first
abbrev pub word_at : ℕ → ℕ → List ℕ
word_at zero w = decimal w
word_at (suc i) w = space ++ decimal w

-- "3 0 7": words in decimal with one space between; for no word the line end alone
abbrev pub words_line : List ℕ → List ℕ
words_line ws = join_below (length ws) (λ i. word_at i (get_or ws i 0)) ++ line_end

-- " node ", " PASS ", " FAIL "
abbrev pub node_label : List ℕ
node_label = 32 ∷ 110 ∷ 111 ∷ 100 ∷ 101 ∷ 32 ∷ []

abbrev pub pass_label : List ℕ
pass_label = 32 ∷ 80 ∷ 65 ∷ 83 ∷ 83 ∷ 32 ∷ []

abbrev pub fail_label : List ℕ
fail_label = 32 ∷ 70 ∷ 65 ∷ 73 ∷ 76 ∷ 32 ∷ []

-- "component 0 node 1 PASS 0 FAIL 7"
abbrev pub mark_line : ℕ → ℕ → ℕ → ℕ → List ℕ
mark_line c k pass fail =
    component_label ++ (decimal c ++ (node_label ++ (decimal k ++ (pass_label ++ (decimal pass ++ (fail_label ++ (decimal fail ++ line_end)))))))

-- the line of the j-th two words, where each component has so many nodes: PASS and FAIL of component j / nodes and node j % nodes
abbrev pub mark_line_at : ℕ → List ℕ → ℕ → List ℕ
mark_line_at nodes ws j = mark_line (j / nodes) (j % nodes) (get_or ws (2 * j) 0) (get_or ws (2 * j + 1) 0)

-- the lines of all marks, components outermost
abbrev pub mark_lines : ℕ → List ℕ → List ℕ
mark_lines nodes ws = join_below (length ws / 2) (mark_line_at nodes ws)

-- 0 to 9 are "0" to "9", bytes 48 to 57; 10 to 15 are "a" to "f", bytes 97 to 102
abbrev pub hexadecimal_digit : ℕ → ℕ
hexadecimal_digit d = cond (ltb d 10) (48 + d) (87 + d)

abbrev pub hexadecimal_byte : ℕ → List ℕ
hexadecimal_byte b = hexadecimal_digit (b / 16) ∷ hexadecimal_digit (b % 16) ∷ []

-- "03ff10": each byte as two hexadecimal digits
abbrev pub hexadecimal_line : List ℕ → List ℕ
hexadecimal_line bytes = join_below (length bytes) (λ i. hexadecimal_byte (get_or bytes i 0)) ++ line_end

-- "true", "false"
abbrev pub truth_word : Bool → List ℕ
truth_word true = 116 ∷ 114 ∷ 117 ∷ 101 ∷ []
truth_word false = 102 ∷ 97 ∷ 108 ∷ 115 ∷ 101 ∷ []

-- the lookup: "true", "false" or the refusal
abbrev pub lookup_line : Reply Bool → List ℕ
lookup_line (given b) = truth_word b ++ line_end
lookup_line (denied r) = refusal_line_of r

-- the verdict: "holds marks" and the like, or the refusal
abbrev pub judgement_line : Reply Judgement → List ℕ
judgement_line (given j) = verdict_word j.verdict ++ (space ++ (stage_word j.stage ++ line_end))
judgement_line (denied r) = refusal_line_of r

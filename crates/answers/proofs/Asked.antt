-- Lines and their questions, from bytes, and what is printed for the chain of document 01.
use mathlib.Core.Path.{◌≡◌, refl}
use mathlib.Core.List.{List, [], ◌∷◌}
use Prim.Native.Nat.{ℕ}
use Rattle.words.specs.Sets.{digit, built, insert}
use Rattle.meaning.specs.Tests.{All}
use Rattle.meaning.specs.File.Number.{groups}
use Rattle.meaning.specs.File.Parser.{list_of}
use Rattle.meaning.specs.File.Grammar.{with_all, between, less_than, signal, component, named, node, whole}
use Rattle.answers.specs.Listing.{decimal, refusal_line_of, listing_text}
use Rattle.answers.specs.Outcomes.{lookup_reply, verdict_reply}
use Rattle.answers.specs.Questions.{Question, full, marks, classes, merged, listing, verdict, stretch, lookup, unknown, words_of, question_of}
use Rattle.answers.specs.Printed.{printed}

-- a line, and the question that it asks
pub record Row : Type 0 where
  pub line : List ℕ
  pub asks : Question

abbrev asks_for : List ℕ → Question → Row
asks_for l q = record { line = l; asks = q }

-- each question, its words and numbers from both sides
abbrev pub rows : List Row
rows =
    -- "full"
    asks_for (102 ∷ 117 ∷ 108 ∷ 108 ∷ []) full
    -- "marks"
    ∷ asks_for (109 ∷ 97 ∷ 114 ∷ 107 ∷ 115 ∷ []) marks
    -- "classes"
    ∷ asks_for (99 ∷ 108 ∷ 97 ∷ 115 ∷ 115 ∷ 101 ∷ 115 ∷ []) classes
    -- "merged"
    ∷ asks_for (109 ∷ 101 ∷ 114 ∷ 103 ∷ 101 ∷ 100 ∷ []) merged
    -- "listing"
    ∷ asks_for (108 ∷ 105 ∷ 115 ∷ 116 ∷ 105 ∷ 110 ∷ 103 ∷ []) listing
    -- "verdict"
    ∷ asks_for (118 ∷ 101 ∷ 114 ∷ 100 ∷ 105 ∷ 99 ∷ 116 ∷ []) verdict
    -- "stretch 0"
    ∷ asks_for (115 ∷ 116 ∷ 114 ∷ 101 ∷ 116 ∷ 99 ∷ 104 ∷ 32 ∷ 48 ∷ []) (stretch 0)
    -- "stretch 4294967295"
    ∷ asks_for (115 ∷ 116 ∷ 114 ∷ 101 ∷ 116 ∷ 99 ∷ 104 ∷ 32 ∷ 52 ∷ 50 ∷ 57 ∷ 52 ∷ 57 ∷ 54 ∷ 55 ∷ 50 ∷ 57 ∷ 53 ∷ []) (stretch 4294967295)
    -- "stretch 4294967296"
    ∷ asks_for (115 ∷ 116 ∷ 114 ∷ 101 ∷ 116 ∷ 99 ∷ 104 ∷ 32 ∷ 52 ∷ 50 ∷ 57 ∷ 52 ∷ 57 ∷ 54 ∷ 55 ∷ 50 ∷ 57 ∷ 54 ∷ []) unknown
    -- "stretch 0000000001"
    ∷ asks_for (115 ∷ 116 ∷ 114 ∷ 101 ∷ 116 ∷ 99 ∷ 104 ∷ 32 ∷ 48 ∷ 48 ∷ 48 ∷ 48 ∷ 48 ∷ 48 ∷ 48 ∷ 48 ∷ 48 ∷ 49 ∷ []) (stretch 1)
    -- "stretch 00000000001"
    ∷ asks_for (115 ∷ 116 ∷ 114 ∷ 101 ∷ 116 ∷ 99 ∷ 104 ∷ 32 ∷ 48 ∷ 48 ∷ 48 ∷ 48 ∷ 48 ∷ 48 ∷ 48 ∷ 48 ∷ 48 ∷ 48 ∷ 49 ∷ []) unknown
    -- "stretch"
    ∷ asks_for (115 ∷ 116 ∷ 114 ∷ 101 ∷ 116 ∷ 99 ∷ 104 ∷ []) unknown
    -- "stretch 0 0"
    ∷ asks_for (115 ∷ 116 ∷ 114 ∷ 101 ∷ 116 ∷ 99 ∷ 104 ∷ 32 ∷ 48 ∷ 32 ∷ 48 ∷ []) unknown
    -- "stretch x"
    ∷ asks_for (115 ∷ 116 ∷ 114 ∷ 101 ∷ 116 ∷ 99 ∷ 104 ∷ 32 ∷ 120 ∷ []) unknown
    -- "stretch /"
    ∷ asks_for (115 ∷ 116 ∷ 114 ∷ 101 ∷ 116 ∷ 99 ∷ 104 ∷ 32 ∷ 47 ∷ []) unknown
    -- "stretch :"
    ∷ asks_for (115 ∷ 116 ∷ 114 ∷ 101 ∷ 116 ∷ 99 ∷ 104 ∷ 32 ∷ 58 ∷ []) unknown
    -- "lookup 0 1 2 3"
    ∷ asks_for (108 ∷ 111 ∷ 111 ∷ 107 ∷ 117 ∷ 112 ∷ 32 ∷ 48 ∷ 32 ∷ 49 ∷ 32 ∷ 50 ∷ 32 ∷ 51 ∷ []) (lookup 0 1 2 3)
    -- "lookup 0 1 2"
    ∷ asks_for (108 ∷ 111 ∷ 111 ∷ 107 ∷ 117 ∷ 112 ∷ 32 ∷ 48 ∷ 32 ∷ 49 ∷ 32 ∷ 50 ∷ []) unknown
    -- "lookup 0 1 2 3 4"
    ∷ asks_for (108 ∷ 111 ∷ 111 ∷ 107 ∷ 117 ∷ 112 ∷ 32 ∷ 48 ∷ 32 ∷ 49 ∷ 32 ∷ 50 ∷ 32 ∷ 51 ∷ 32 ∷ 52 ∷ []) unknown
    -- "lookup 0  1 2 3"
    ∷ asks_for (108 ∷ 111 ∷ 111 ∷ 107 ∷ 117 ∷ 112 ∷ 32 ∷ 48 ∷ 32 ∷ 32 ∷ 49 ∷ 32 ∷ 50 ∷ 32 ∷ 51 ∷ []) unknown
    -- ""
    ∷ asks_for ([]) unknown
    -- " full"
    ∷ asks_for (32 ∷ 102 ∷ 117 ∷ 108 ∷ 108 ∷ []) unknown
    -- "full "
    ∷ asks_for (102 ∷ 117 ∷ 108 ∷ 108 ∷ 32 ∷ []) unknown
    -- "full 0"
    ∷ asks_for (102 ∷ 117 ∷ 108 ∷ 108 ∷ 32 ∷ 48 ∷ []) unknown
    -- "Full"
    ∷ asks_for (70 ∷ 117 ∷ 108 ∷ 108 ∷ []) unknown
    -- "fulll"
    ∷ asks_for (102 ∷ 117 ∷ 108 ∷ 108 ∷ 108 ∷ []) unknown
    -- "ful"
    ∷ asks_for (102 ∷ 117 ∷ 108 ∷ []) unknown
    -- "lookup"
    ∷ asks_for (108 ∷ 111 ∷ 111 ∷ 107 ∷ 117 ∷ 112 ∷ []) unknown
    ∷ []

pub asked : All (λ r. question_of r.line ≡ r.asks) rows
unfolding question_of words_of
asked = (refl, (refl, (refl, (refl, (refl, (refl, (refl, (refl, (refl, (refl, (refl, (refl, (refl, (refl, (refl, (refl, (refl, (refl, (refl, (refl, (refl, (refl, (refl, (refl, (refl, (refl, (refl, (refl, tt))))))))))))))))))))))))))))

abbrev chain : List ℕ
chain = 1 ∷ 1 ∷ 3 ∷ 0 ∷ 1 ∷ 0 ∷ 1 ∷ 1 ∷ 0 ∷ 2 ∷ 4 ∷ 4 ∷ 2 ∷ 1 ∷ 0 ∷ 5 ∷ 0 ∷ 1 ∷ 0 ∷ []

-- a question about the chain, and the text that is printed
pub record Text : Type 0 where
  pub asked : Question
  pub text : List ℕ

abbrev prints : Question → List ℕ → Text
prints q l = record { asked = q; text = l }

abbrev pub texts : List Text
texts =
    -- "verdict fails marks", "component 0 classes 0 0 2", "merged 2 of 3"
    prints listing (118 ∷ 101 ∷ 114 ∷ 100 ∷ 105 ∷ 99 ∷ 116 ∷ 32 ∷ 102 ∷ 97 ∷ 105 ∷ 108 ∷ 115 ∷ 32 ∷ 109 ∷ 97 ∷ 114 ∷ 107 ∷ 115 ∷ 10 ∷ 99 ∷ 111 ∷ 109 ∷ 112 ∷ 111 ∷ 110 ∷ 101 ∷ 110 ∷ 116 ∷ 32 ∷ 48 ∷ 32 ∷ 99 ∷ 108 ∷ 97 ∷ 115 ∷ 115 ∷ 101 ∷ 115 ∷ 32 ∷ 48 ∷ 32 ∷ 48 ∷ 32 ∷ 50 ∷ 10 ∷ 109 ∷ 101 ∷ 114 ∷ 103 ∷ 101 ∷ 100 ∷ 32 ∷ 50 ∷ 32 ∷ 111 ∷ 102 ∷ 32 ∷ 51 ∷ 10 ∷ [])
    -- "1 1 0"
    ∷ prints full (49 ∷ 32 ∷ 49 ∷ 32 ∷ 48 ∷ 10 ∷ [])
    -- "component 0 node 0 PASS 3 FAIL 4", "component 0 node 1 PASS 0 FAIL 7"
    ∷ prints marks (99 ∷ 111 ∷ 109 ∷ 112 ∷ 111 ∷ 110 ∷ 101 ∷ 110 ∷ 116 ∷ 32 ∷ 48 ∷ 32 ∷ 110 ∷ 111 ∷ 100 ∷ 101 ∷ 32 ∷ 48 ∷ 32 ∷ 80 ∷ 65 ∷ 83 ∷ 83 ∷ 32 ∷ 51 ∷ 32 ∷ 70 ∷ 65 ∷ 73 ∷ 76 ∷ 32 ∷ 52 ∷ 10 ∷ 99 ∷ 111 ∷ 109 ∷ 112 ∷ 111 ∷ 110 ∷ 101 ∷ 110 ∷ 116 ∷ 32 ∷ 48 ∷ 32 ∷ 110 ∷ 111 ∷ 100 ∷ 101 ∷ 32 ∷ 49 ∷ 32 ∷ 80 ∷ 65 ∷ 83 ∷ 83 ∷ 32 ∷ 48 ∷ 32 ∷ 70 ∷ 65 ∷ 73 ∷ 76 ∷ 32 ∷ 55 ∷ 10 ∷ [])
    -- "component 0 classes 0 0 2"
    ∷ prints classes (99 ∷ 111 ∷ 109 ∷ 112 ∷ 111 ∷ 110 ∷ 101 ∷ 110 ∷ 116 ∷ 32 ∷ 48 ∷ 32 ∷ 99 ∷ 108 ∷ 97 ∷ 115 ∷ 115 ∷ 101 ∷ 115 ∷ 32 ∷ 48 ∷ 32 ∷ 48 ∷ 32 ∷ 50 ∷ 10 ∷ [])
    -- "1 0"
    ∷ prints merged (49 ∷ 32 ∷ 48 ∷ 10 ∷ [])
    -- "fails marks"
    ∷ prints verdict (102 ∷ 97 ∷ 105 ∷ 108 ∷ 115 ∷ 32 ∷ 109 ∷ 97 ∷ 114 ∷ 107 ∷ 115 ∷ 10 ∷ [])
    -- "false"
    ∷ prints (lookup 0 0 0 0) (102 ∷ 97 ∷ 108 ∷ 115 ∷ 101 ∷ 10 ∷ [])
    -- "refused 9"
    ∷ prints (lookup 3 0 0 0) (114 ∷ 101 ∷ 102 ∷ 117 ∷ 115 ∷ 101 ∷ 100 ∷ 32 ∷ 57 ∷ 10 ∷ [])
    -- "refused 9"
    ∷ prints (lookup 0 1 0 0) (114 ∷ 101 ∷ 102 ∷ 117 ∷ 115 ∷ 101 ∷ 100 ∷ 32 ∷ 57 ∷ 10 ∷ [])
    -- "03000100010100020404"
    ∷ prints (stretch 0) (48 ∷ 51 ∷ 48 ∷ 48 ∷ 48 ∷ 49 ∷ 48 ∷ 48 ∷ 48 ∷ 49 ∷ 48 ∷ 49 ∷ 48 ∷ 48 ∷ 48 ∷ 50 ∷ 48 ∷ 52 ∷ 48 ∷ 52 ∷ 10 ∷ [])
    -- "refused 3"
    ∷ prints (stretch 1) (114 ∷ 101 ∷ 102 ∷ 117 ∷ 115 ∷ 101 ∷ 100 ∷ 32 ∷ 51 ∷ 10 ∷ [])
    ∷ []

pub printed_chain : All (λ r. printed r.asked chain ≡ r.text) texts
unfolding printed listing_text decimal refusal_line_of lookup_reply verdict_reply digit built insert with_all groups list_of between less_than signal component named node whole
printed_chain = (refl, (refl, (refl, (refl, (refl, (refl, (refl, (refl, (refl, (refl, (refl, tt)))))))))))

-- a file that is refused is refused whatever is asked: "refused 1"
pub printed_empty : All (λ q. printed q [] ≡ 114 ∷ 101 ∷ 102 ∷ 117 ∷ 115 ∷ 101 ∷ 100 ∷ 32 ∷ 49 ∷ 10 ∷ [])
    (full ∷ marks ∷ classes ∷ merged ∷ listing ∷ verdict ∷ stretch 0 ∷ stretch 4 ∷ lookup 0 0 0 0 ∷ lookup 9 9 9 9 ∷ [])
unfolding printed decimal refusal_line_of lookup_reply verdict_reply groups between whole
printed_empty = (refl, (refl, (refl, (refl, (refl, (refl, (refl, (refl, (refl, (refl, tt))))))))))

-- A good file of 41,651 bytes, the most that one has (File/Longest): four components of 64 states and four inputs, with twelve outputs together,
-- eight of them in one component; 24 nodes and 64 starts; each number as long as it can be.
use mathlib.Core.Path.{◌∙◌, ◌≡◌, ap, refl, subst}
use mathlib.Core.Bool.{◌&&◌, true}
use mathlib.Core.List.{List, [], ◌++◌, ◌∷◌, append-nil, map}
use lib.Dec.{T, le→leb, leb, leb→le, ltb, lt→ltb}
use lib.ListN.{get_or, length, replicate}
use native.Mathlib.Omega.{arith}
use Prim.Native.Nat.{◌+◌, ◌-◌, ◌<◌, ◌^◌, suc, ℕ}
use Rattle.words.specs.Sets.{digit, insert}
use Rattle.meaning.specs.Atoms.{Atom, on_signal}
use Rattle.meaning.specs.File.Grammar.{Component, Contents, as_written, between, component, components, driven_by, earlier, finished, limits, most_nexts, most_states}
use Rattle.meaning.specs.File.Grammar.{filled_contents, node, nodes, number, raw, read_file, signals, start, start_state, whole, with_all}
use Rattle.meaning.specs.File.Number.{groups}
use Rattle.meaning.specs.File.Parser.{Done, demand, done, found, list_of, on, repeat}
use Rattle.meaning.specs.File.Promise.{longest_file}
use Rattle.meaning.specs.Nodes.{Node, atom, or}
use Rattle.meaning.proofs.Basic.Booleans.{and_r, is_true}
use Rattle.meaning.proofs.File.Filled.{made_of, read_filled}
use Rattle.meaning.proofs.File.Written.{Ends, Wrote, copies, ends_bind, listable, wrote_between, wrote_bind, wrote_byte, wrote_copies}
use Rattle.meaning.proofs.File.Written.{wrote_less, wrote_map, wrote_more, wrote_named, wrote_none, wrote_number, wrote_signals}

-- the set of the last state, which takes ten bytes
abbrev last_set : ℕ
last_set = 2 ^ (most_states - 1)

abbrev set_bytes : List ℕ
set_bytes = 128 ∷ 128 ∷ 128 ∷ 128 ∷ 128 ∷ 128 ∷ 128 ∷ 128 ∷ 128 ∷ 1 ∷ []

-- a component of the largest size: its inputs, its outputs, and the bytes of each state's output word
abbrev largest : List ℕ → List ℕ → List ℕ → List ℕ
largest inputs outputs word =
    (most_states ∷ []) ++ ((4 ∷ []) ++ (inputs ++ ((length outputs ∷ []) ++ (outputs ++ (copies most_states word ++ copies most_nexts set_bytes)))))

abbrev largest_component : List ℕ → List ℕ → ℕ → Component
largest_component inputs outputs w =
    record { states = most_states; inputs = inputs; outputs = outputs; outs = replicate most_states w; nexts = replicate most_nexts last_set }

wrote_set : Wrote (number limits) set_bytes last_set
unfolding groups
wrote_set = wrote_number limits set_bytes last_set (λ rest at. ap (λ n. found last_set n) (omega arith))

wrote_largest : (driven : ℕ) (inputs outputs word : List ℕ) (w : ℕ) → length inputs ≡ 4 → T (listable 12 0 0 inputs)
    → T (listable 12 (with_all driven inputs) 0 outputs) → T (leb 0 (length outputs) && leb (length outputs) 8)
    → T (leb 0 w && leb w (2 ^ length outputs - 1))
    → Wrote (number limits) word w → Wrote (component limits as_written 12 driven) (largest inputs outputs word) (largest_component inputs outputs w)
unfolding component
wrote_largest driven inputs outputs word w four hi ho o8 small h =
    wrote_bind _ (wrote_between limits _ _ _ refl (wrote_byte most_states (omega arith)))
    (wrote_bind _ (wrote_between limits _ _ _ refl (wrote_byte 4 (omega arith)))
    (wrote_bind _ four_inputs
    (wrote_bind _ (wrote_between limits _ _ _ (is_true (leb 0 (length outputs) && leb (length outputs) 8) o8) (wrote_byte (length outputs) few))
    (wrote_bind _ (wrote_signals 12 (with_all driven inputs) 0 outputs ho)
    (wrote_bind _ (wrote_copies (λ (s : Done). between limits 0 (2 ^ length outputs - 1) 6) (λ s a. s) (λ s. Unit {0}) word w
    (λ s u. (wrote_between limits _ _ _ (is_true (leb 0 w && leb w (2 ^ length outputs - 1)) small) h, tt)) most_states done tt)
    (wrote_map (λ nexts. record { states = most_states; inputs = inputs; outputs = outputs; outs = replicate most_states w; nexts = nexts })
    (wrote_copies (λ (s : Done). between limits 0 (2 ^ most_states - 1) 6) (λ s a. s) (λ s. Unit {0}) set_bytes last_set
    (λ s u. (wrote_between limits _ _ _ refl wrote_set, tt)) most_nexts done tt)))))))
  where
    few : length outputs < 128
    few = omega (arith, leb→le (length outputs) 8 (and_r (leb 0 (length outputs)) (leb (length outputs) 8) o8))

    four_inputs : Wrote (signals limits 12 0 4) inputs inputs
    four_inputs = subst (λ k. Wrote (signals limits 12 0 k) inputs inputs) four (wrote_signals 12 0 0 inputs hi)

-- ---- the four components: the same inputs and outputs as in the stored case `longest`
abbrev long_components : List Component
long_components =
    largest_component (8 ∷ 9 ∷ 10 ∷ 11 ∷ []) (0 ∷ 1 ∷ 2 ∷ 3 ∷ 4 ∷ 5 ∷ 6 ∷ 7 ∷ []) 128
    ∷ largest_component (0 ∷ 1 ∷ 2 ∷ 3 ∷ []) (8 ∷ 9 ∷ []) 0
    ∷ largest_component (0 ∷ 1 ∷ 8 ∷ 11 ∷ []) (10 ∷ []) 0
    ∷ largest_component (2 ∷ 4 ∷ 9 ∷ 10 ∷ []) (11 ∷ []) 0
    ∷ []

abbrev components_bytes : List ℕ
components_bytes =
    largest (8 ∷ 9 ∷ 10 ∷ 11 ∷ []) (0 ∷ 1 ∷ 2 ∷ 3 ∷ 4 ∷ 5 ∷ 6 ∷ 7 ∷ []) (128 ∷ 1 ∷ [])
    ++ (largest (0 ∷ 1 ∷ 2 ∷ 3 ∷ []) (8 ∷ 9 ∷ []) (0 ∷ [])
    ++ (largest (0 ∷ 1 ∷ 8 ∷ 11 ∷ []) (10 ∷ []) (0 ∷ [])
    ++ (largest (2 ∷ 4 ∷ 9 ∷ 10 ∷ []) (11 ∷ []) (0 ∷ []) ++ [])))

wrote_word : Wrote (number limits) (128 ∷ 1 ∷ []) 128
unfolding groups
wrote_word = wrote_number limits (128 ∷ 1 ∷ []) 128 (λ rest at. ap (λ n. found 128 n) (omega arith))

wrote_components : Wrote (components limits as_written 12 4) components_bytes long_components
unfolding digit insert with_all
wrote_components =
    wrote_more (component limits as_written 12) _ 3 0 _ _ _ _ (wrote_largest 0 _ _ _ 128 refl tt tt tt tt wrote_word)
    (wrote_more (component limits as_written 12) _ 2 _ _ _ _ _ (wrote_largest 255 _ _ _ 0 refl tt tt tt tt (wrote_byte 0 (omega arith)))
    (wrote_more (component limits as_written 12) _ 1 _ _ _ _ _ (wrote_largest 1023 _ _ _ 0 refl tt tt tt tt (wrote_byte 0 (omega arith)))
    (wrote_more (component limits as_written 12) _ 0 _ _ _ _ _ (wrote_largest 2047 _ _ _ 0 refl tt tt tt tt (wrote_byte 0 (omega arith)))
    (wrote_none (component limits as_written 12) _ _))))

-- ---- nodes: signal 0, then `or` of node 0 with itself
abbrev long_nodes : List (Node Atom)
long_nodes = atom (on_signal 0) ∷ replicate 23 (or 0 0)

abbrev nodes_bytes : List ℕ
nodes_bytes = (1 ∷ 0 ∷ []) ++ copies 23 (3 ∷ 0 ∷ 0 ∷ [])

wrote_first : Wrote (node limits 12 (driven_by 0 long_components) 0) (1 ∷ 0 ∷ []) (atom (on_signal 0))
unfolding node digit insert with_all
wrote_first = wrote_bind _ (wrote_byte 1 (omega arith)) (wrote_map (λ w. atom (on_signal w)) (wrote_named limits _ _ refl (wrote_byte 0 (omega arith))))

wrote_or : (driven k : ℕ) → 0 < k → Wrote (node limits 12 driven k) (3 ∷ 0 ∷ 0 ∷ []) (or 0 0)
unfolding node
wrote_or driven k l =
    wrote_bind _ (wrote_byte 3 (omega arith)) (wrote_bind _ operand (wrote_map (λ b. or 0 b) operand))
  where
    operand : Wrote (earlier limits k) (0 ∷ []) 0
    operand = wrote_less limits k 7 (is_true (ltb 0 k) (lt→ltb 0 k l)) (wrote_byte 0 (omega arith))

wrote_nodes : Wrote (nodes limits 12 (driven_by 0 long_components) 24) nodes_bytes long_nodes
wrote_nodes =
    wrote_more (node limits 12 (driven_by 0 long_components)) _ 23 0 _ _ _ _ wrote_first
    (wrote_copies (node limits 12 (driven_by 0 long_components)) (λ k a. k + 1) (λ k. 0 < k) (3 ∷ 0 ∷ 0 ∷ []) (or 0 0)
    (λ k l. (wrote_or (driven_by 0 long_components) k l, omega arith)) 23 1 (omega arith))

-- ---- starts: state 0 of each component
abbrev sizes : List ℕ
sizes = map (λ c. c.states) long_components

wrote_start : Wrote (start limits sizes) (0 ∷ 0 ∷ 0 ∷ 0 ∷ []) (0 ∷ 0 ∷ 0 ∷ 0 ∷ [])
wrote_start = state 3 0 refl (state 2 1 refl (state 1 2 refl (state 0 3 refl (wrote_none (start_state limits sizes) (λ c v. c + 1) 4))))
  where
    state : (k c : ℕ) → ltb 0 (get_or sizes c 0) ≡ true → {bs : List ℕ} {vs : List ℕ}
        → Wrote (list_of (start_state limits sizes) (λ c v. c + 1) k (c + 1)) bs vs
        → Wrote (list_of (start_state limits sizes) (λ c v. c + 1) (suc k) c) (0 ∷ bs) (0 ∷ vs)
    state k c e {bs} {vs} h =
        wrote_more (start_state limits sizes) (λ c v. c + 1) k c (0 ∷ []) bs 0 vs
        (wrote_less limits (get_or sizes c 0) 9 e (wrote_byte 0 (omega arith))) h

wrote_starts : Wrote (repeat (start limits sizes) 64) (copies 64 (0 ∷ 0 ∷ 0 ∷ 0 ∷ [])) (replicate 64 (0 ∷ 0 ∷ 0 ∷ 0 ∷ []))
wrote_starts =
    wrote_copies (λ (s : Done). start limits sizes) (λ s a. s) (λ s. Unit {0}) (0 ∷ 0 ∷ 0 ∷ 0 ∷ []) (0 ∷ 0 ∷ 0 ∷ 0 ∷ [])
    (λ s u. (wrote_start, tt)) 64 done tt

-- ---- the file
abbrev pub longest_bytes : List ℕ
longest_bytes =
    (4 ∷ []) ++ ((12 ∷ []) ++ (components_bytes ++ ((24 ∷ []) ++ (nodes_bytes ++ ((64 ∷ []) ++ (copies 64 (0 ∷ 0 ∷ 0 ∷ 0 ∷ []) ++ []))))))

abbrev pub longest_contents : Contents
longest_contents = record { signals = 12; components = long_components; nodes = long_nodes; starts = replicate 64 (0 ∷ 0 ∷ 0 ∷ 0 ∷ []); sets = [] }

end_of_file : Ends (λ file at. on (finished limits file at) (λ d n. found longest_contents n)) [] longest_contents
end_of_file =
    record {
      reads =
          λ before. let l : length (before ++ []) ≡ length before = ap (λ (l : List ℕ). length l) (append-nil before) in
          ap (λ t. on (demand t 10 (before ++ []) (length before)) (λ d n. found longest_contents n))
          (is_true (leb (length (before ++ [])) (length before)) (le→leb (length (before ++ [])) (length before) (omega arith)))
          ∙ ap (λ n. found longest_contents n) (omega arith);
    }

ends_whole : Ends (whole limits as_written) longest_bytes longest_contents
unfolding whole
ends_whole =
    ends_bind _ (wrote_between limits _ _ _ refl (wrote_byte 4 (omega arith)))
    (ends_bind _ (wrote_between limits _ _ _ refl (wrote_byte 12 (omega arith)))
    (ends_bind _ wrote_components
    (ends_bind _ (wrote_between limits _ _ _ refl (wrote_byte 24 (omega arith)))
    (ends_bind _ wrote_nodes
    (ends_bind _ (wrote_between limits _ _ _ refl (wrote_byte 64 (omega arith)))
    (ends_bind _ wrote_starts end_of_file))))))

longest_length : length longest_bytes ≡ longest_file
longest_length = refl

-- it is good, and has as many bytes as a good file can have
longest_raw : raw longest_bytes ≡ found longest_contents longest_file
longest_raw = ends_whole.reads [] ∙ ap (λ n. found longest_contents n) longest_length

pub longest_good : (read_file longest_bytes ≡ found (filled_contents longest_contents) longest_file) × (length longest_bytes ≡ longest_file)
longest_good = (read_filled longest_bytes ∙ ap (made_of filled_contents) longest_raw, longest_length)

-- The instrument file in file order: each number is read, then judged (document 01, The instrument file and Refused, numbers 1 to 10). Limits
-- and the width of numbers are parameters.
use Rattle.std.specs.Prelude.{not, ◌&&◌, List, [], ◌∷◌, map, ltb, leb, length, get_or, ℕ, zero, suc, ◌+◌, ◌-◌, ◌*◌, ◌/◌, ◌^◌}
use Rattle.words.specs.Sets.{has, insert}
use Rattle.meaning.specs.Atoms.{Atom, Set, on_signal}
use Rattle.meaning.specs.Table.{Table, from_words}
use Rattle.meaning.specs.Nodes.{Node, top, atom, neg, or, ex, eg, eu}
use Rattle.meaning.specs.Instrument.{Instrument}
use Rattle.meaning.specs.File.Parser.{Got, fault, Parser, Done, ◌>>=◌, ◌>>◌, give, demand, list_of, repeat}
use Rattle.meaning.specs.File.Number.{number_with}

-- the width of numbers, as the highest last group and how many groups may stand before it; and how many there may be of each thing
pub record Limits : Type 0 where
  pub last_group : ℕ
  pub groups_before : ℕ
  pub components : ℕ
  pub signals : ℕ
  pub states : ℕ
  pub inputs : ℕ
  pub outputs : ℕ
  pub nodes : ℕ
  pub starts : ℕ

-- document 01's, the width and the states as 12/14 of document 02 has them
abbrev pub limits : Limits
limits =
    record {
      last_group = 1;
      groups_before = 9;
      components = 4;
      signals = 12;
      states = 64;
      inputs = 4;
      outputs = 8;
      nodes = 24;
      starts = 64;
    }

-- so many states and successor sets a component may have; and so many output words and successor sets four of them together
abbrev pub most_states : ℕ
most_states = limits.states

abbrev pub most_nexts : ℕ
most_nexts = most_states * 2 ^ limits.inputs

abbrev pub all_outs : ℕ
all_outs = limits.components * most_states

abbrev pub all_nexts : ℕ
all_nexts = limits.components * most_nexts

-- a component's stretch of the file
pub record Component : Type 0 where
  pub states : ℕ
  pub inputs : List ℕ
  pub outputs : List ℕ
  pub outs : List ℕ
  pub nexts : List ℕ

-- all that a good file says
pub record Contents : Type 0 where
  pub signals : ℕ
  pub components : List Component
  pub nodes : List (Node Atom)
  pub starts : List (List ℕ)
  -- named sets of combined states, of which an instrument file holds none
  pub sets : List Set

abbrev pub table_of : Component → Table
table_of c = from_words c.states c.inputs c.outputs c.outs c.nexts

abbrev pub instrument_of : Contents → Instrument
instrument_of c = record { signals = c.signals; tables = map table_of c.components; nodes = c.nodes; starts = c.starts; sets = c.sets }

-- "An empty successor set means the state itself" (document 02, 2/14): the set of state x
abbrev pub filled_set : ℕ → ℕ → ℕ
filled_set x zero = 2 ^ x
filled_set x (suc v) = suc v

-- the sets from place p on, of which each state has one for each assignment of i inputs: the set at place p is one of state p / 2^i
abbrev pub filled_from : ℕ → ℕ → List ℕ → List ℕ
filled_from i p [] = []
filled_from i p (v ∷ vs) = filled_set (p / 2 ^ i) v ∷ filled_from i (suc p) vs

-- a component as it is written, and with its sets filled
abbrev pub as_written : Component → Component
as_written c = c

abbrev pub filled : Component → Component
filled c =
    record {
      states = c.states;
      inputs = c.inputs;
      outputs = c.outputs;
      outs = c.outs;
      nexts = filled_from (length c.inputs) 0 c.nexts;
    }

abbrev pub filled_contents : Contents → Contents
filled_contents c =
    record { signals = c.signals; components = map filled c.components; nodes = c.nodes; starts = c.starts; sets = c.sets }

-- a set of signals with those of a list besides, bit w for signal w
unfoldable pub with_all : ℕ → List ℕ → ℕ
with_all set [] = set
with_all set (v ∷ vs) = with_all (insert set v) vs

-- the signals that these components drive, besides a set of others
abbrev pub driven_by : ℕ → List Component → ℕ
driven_by set [] = set
driven_by set (c ∷ cs) = driven_by (with_all set c.outputs) cs

module _ (L : Limits) where
  abbrev pub number : Parser ℕ
  number = number_with L.last_group L.groups_before

  -- a number from lo to hi, else the refusal r
  unfoldable pub between : ℕ → ℕ → ℕ → Parser ℕ
  between lo hi r = do
    v ← number
    demand (leb lo v && leb v hi) r
    give v

  -- a number below a bound, else the refusal r
  unfoldable pub less_than : ℕ → ℕ → Parser ℕ
  less_than bound r = do
    v ← number
    demand (ltb v bound) r
    give v

  -- a listed signal: not below `low` and below W, else 4; not in the set `taken`, else 5
  unfoldable pub signal : ℕ → ℕ → ℕ → Parser ℕ
  signal W taken low = do
    v ← number
    demand (leb low v && ltb v W) 4
    demand (not (has taken v)) 5
    give v

  -- so many signals, strictly ascending
  abbrev pub signals : ℕ → ℕ → ℕ → Parser (List ℕ)
  signals W taken count = list_of (signal W taken) (λ low v. v + 1) count 0

  -- a component, after others that drive the signals `driven`: its outputs are none of those and none of its own inputs; `make` is what is
  -- made of it as it is written
  unfoldable pub component : (Component → Component) → ℕ → ℕ → Parser Component
  component make W driven = do
    s ← between 1 L.states 3
    i ← between 0 L.inputs 3
    inputs ← signals W 0 i
    o ← between 0 L.outputs 3
    outputs ← signals W (with_all driven inputs) o
    outs ← repeat (between 0 (2 ^ o - 1) 6) s
    nexts ← repeat (between 0 (2 ^ s - 1) 6) (s * 2 ^ i)
    give (make (record { states = s; inputs = inputs; outputs = outputs; outs = outs; nexts = nexts }))

  abbrev pub components : (Component → Component) → ℕ → ℕ → Parser (List Component)
  components make W n = list_of (component make W) (λ driven c. with_all driven c.outputs) n 0

  -- an operand of node k: an earlier node
  abbrev pub earlier : ℕ → Parser ℕ
  earlier k = less_than k 7

  -- the operand of a signal node: a signal of the file that a component drives
  unfoldable pub named : ℕ → ℕ → Parser ℕ
  named W driven = do
    v ← number
    demand (ltb v W && has driven v) 8
    give v

  abbrev pub unary : (ℕ → Node Atom) → Parser ℕ → Parser (Node Atom)
  unary f operand = do
    a ← operand
    give (f a)

  abbrev pub binary : (ℕ → ℕ → Node Atom) → ℕ → Parser (Node Atom)
  binary f k = do
    a ← earlier k
    b ← earlier k
    give (f a b)

  -- node k of a known kind with its operands; 7 and above are refused
  abbrev pub operands : ℕ → ℕ → ℕ → ℕ → Parser (Node Atom)
  operands W driven k zero = give top
  operands W driven k (suc zero) = unary (λ w. atom (on_signal w)) (named W driven)
  operands W driven k (suc (suc zero)) = unary neg (earlier k)
  operands W driven k (suc (suc (suc zero))) = binary or k
  operands W driven k (suc (suc (suc (suc zero)))) = unary ex (earlier k)
  operands W driven k (suc (suc (suc (suc (suc zero))))) = unary eg (earlier k)
  operands W driven k (suc (suc (suc (suc (suc (suc zero)))))) = binary eu k
  operands W driven k (suc (suc (suc (suc (suc (suc (suc unknown))))))) = λ file at. fault 7

  unfoldable pub node : ℕ → ℕ → ℕ → Parser (Node Atom)
  node W driven k = do
    kind ← number
    operands W driven k kind

  abbrev pub nodes : ℕ → ℕ → ℕ → Parser (List (Node Atom))
  nodes W driven count = list_of (node W driven) (λ k a. k + 1) count 0

  -- a start: one state of each component, of these sizes
  abbrev pub start_state : List ℕ → ℕ → Parser ℕ
  start_state sizes c = less_than (get_or sizes c 0) 9

  abbrev pub start : List ℕ → Parser (List ℕ)
  start sizes = list_of (start_state sizes) (λ c v. c + 1) (length sizes) 0

  -- no byte is left
  abbrev pub finished : Parser Done
  finished = λ file at. demand (leb (length file) at) 10 file at

  unfoldable pub whole : (Component → Component) → Parser Contents
  whole make = do
    n ← between 1 L.components 3
    W ← between 0 L.signals 3
    cs ← components make W n
    k ← between 1 L.nodes 3
    ns ← nodes W (driven_by 0 cs) k
    m ← between 0 L.starts 3
    ss ← repeat (start (map (λ c. c.states) cs)) m
    finished
    give (record { signals = W; components = cs; nodes = ns; starts = ss; sets = [] })

-- what the documents make of a file: a refusal's number, or the contents, where every rule that reads a table sees filled sets
abbrev pub read_file : List ℕ → Got Contents
read_file file = whole limits filled file 0

-- the same with each set as the file writes it
abbrev pub raw : List ℕ → Got Contents
raw file = whole limits as_written file 0

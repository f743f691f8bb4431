-- What a reader promises of the contents of an accepted file, and how many bytes of a file settle it (document 01, The instrument file).
-- Limits are a parameter.
use Rattle.std.specs.Prelude.{◌≡◌, ◌≢◌, List, [], T, length, get_or, ℕ, ◌*◌, ◌^◌, ◌<◌, ◌≤◌}
use Rattle.meaning.specs.Tests.{All, listed}
use Rattle.meaning.specs.Atoms.{on_signal}
use Rattle.meaning.specs.Nodes.{Earlier, atom, node_at}
use Rattle.meaning.specs.File.Grammar.{Component, Contents, Limits}

-- from lo to hi
abbrev pub Within : ℕ → ℕ → ℕ → Type 0
Within lo hi v = (lo ≤ v) × (v ≤ hi)

-- listed signals: strictly ascending, all below W
pub record Signals (W : ℕ) (vs : List ℕ) : Type 0 where
  pub ascending : (i j : ℕ) → i < j → j < length vs → get_or vs i 0 < get_or vs j 0
  pub below : All (λ v. v < W) vs

-- component i; past the last one there is nothing
abbrev pub no_component : Component
no_component = record { states = 0; inputs = []; outputs = []; outs = []; nexts = [] }

abbrev pub component_at : Contents → ℕ → Component
component_at c i = get_or c.components i no_component

-- a component by itself, in a file with the signals below W
pub record PromisedComponent (L : Limits) (W : ℕ) (c : Component) : Type 0 where
  pub states : Within 1 L.states c.states
  pub input_count : length c.inputs ≤ L.inputs
  pub inputs : Signals W c.inputs
  pub output_count : length c.outputs ≤ L.outputs
  pub outputs : Signals W c.outputs
  -- no output is an input too
  pub own : (w : ℕ) → T (listed c.outputs w) → T (listed c.inputs w) → ⊥
  -- a word for each state, with no bit past the outputs
  pub out_count : length c.outs ≡ c.states
  pub outs : All (λ v. v < 2 ^ length c.outputs) c.outs
  -- a word for each state and assignment, filled: not the empty set, and with no bit past the states
  pub next_count : length c.nexts ≡ c.states * 2 ^ length c.inputs
  pub nexts : All (λ v. (v ≢ 0) × (v < 2 ^ c.states)) c.nexts

pub record Promised (L : Limits) (c : Contents) : Type 0 where
  pub component_count : Within 1 L.components (length c.components)
  pub signal_count : c.signals ≤ L.signals
  pub components : All (PromisedComponent L c.signals) c.components
  -- no signal is driven by two components
  pub apart : (i j : ℕ) → i < j → j < length c.components → (w : ℕ) → T (listed (component_at c i).outputs w)
      → T (listed (component_at c j).outputs w) → ⊥
  pub node_count : Within 1 L.nodes (length c.nodes)
  -- operands are earlier nodes
  pub earlier : Earlier c.nodes
  -- a signal that a node names is driven by some component
  pub named : (k w : ℕ) → node_at c.nodes k ≡ atom (on_signal w)
      → (i : ℕ) × (i < length c.components) × T (listed (component_at c i).outputs w)
  pub start_count : length c.starts ≤ L.starts
  -- a start has one state of each component
  pub starts : All (λ start. (length start ≡ length c.components)
      × ((i : ℕ) → i < length c.components → get_or start i 0 < (component_at c i).states)) c.starts
  -- an instrument file holds no named set
  pub bare : c.sets ≡ []

-- the listing program reads at most so many bytes, which settles every longer input too (proofs/File/Limit)
abbrev pub listing_bytes : ℕ
listing_bytes = 49153

-- a good file has at most so many bytes, and one has that many (proofs/File/Longest, LongestFile)
abbrev pub longest_file : ℕ
longest_file = 41651

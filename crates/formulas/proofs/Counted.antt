-- The stages of the formula and of the starts, as a count and so many of them.
use mathlib.Core.Path.{◌≡◌, sym, ap, ◌∙◌}
use mathlib.Core.List.{List}
use Prim.Native.Nat.{ℕ, ◌≤◌}
use Rattle.meaning.specs.Atoms.{Atom}
use Rattle.meaning.specs.Nodes as formula
use Rattle.meaning.specs.File.Parser.{Parser, repeat}
use Rattle.meaning.specs.File.Grammar.{Contents, limits, between, nodes}
use Rattle.meaning.proofs.File.Lists.{on_assoc}
use Rattle.instrument.specs.declared.Instrument.{Instrument}
use Rattle.instrument.specs.Layout.{layout}
use Rattle.parsing.specs.Stages.{mapped, times}
use Rattle.parsing.proofs.Parsers.{on_each}
use Rattle.formulas.specs.Stages.{add_node, add_start, read_nodes, read_starts}
use Rattle.formulas.specs.Formulas.{all_nodes, all_starts}
use Rattle.formulas.proofs.Grammar.{times_nodes, times_starts}
use Rattle.formulas.proofs.Layouts.{with_nodes, with_starts, without_nodes, without_starts, start_laid}

-- the stages of the contents k, whose instrument is t
module _ (t : Instrument) (k : Contents) (e : t ≡ layout k) (file : List ℕ) (at : ℕ) where
  -- nodes, where there are none before
  pub add_nodes : t.nodecount ≤ 0 → read_nodes k file at ≡ mapped (with_nodes k) (all_nodes t.signals t.driven file at)
  add_nodes h =
      on_each (between limits 1 limits.nodes 3 file at) _ _
      (λ n at q. ap (λ (ns : List (formula.Node Atom)). times n add_node (with_nodes k ns) file at) (without_nodes t k e h)
      ∙ times_nodes file n k.signals k.sets k.components k.starts at
      ∙ ap (mapped (with_nodes k)) (sym (ap (λ (u : Instrument). nodes limits u.signals u.driven n file at) e)))
      ∙ sym (on_assoc (between limits 1 limits.nodes 3 file at) _ _)

  -- starts, where there are none before
  pub add_starts : t.startcount ≤ 0 → t.components ≤ limits.components
      → read_starts k file at ≡ mapped (with_starts k) (all_starts t.states t.components file at)
  add_starts h few =
      on_each (between limits 0 limits.starts 3 file at) _ _
      (λ n at q. ap (λ (ss : List (List ℕ)). times n add_start (with_starts k ss) file at) (without_starts t k e h)
      ∙ times_starts file n k.signals k.sets k.components k.nodes at
      ∙ ap (λ (p : Parser (List ℕ)). mapped (with_starts k) (repeat p n file at)) (sym (start_laid t k e few)))
      ∙ sym (on_assoc (between limits 0 limits.starts 3 file at) _ _)

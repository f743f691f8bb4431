-- The stages of the code are the grammar: the whole file.
use mathlib.Core.Path.{◌≡◌, ap, ◌∙◌}
use mathlib.Core.List.{List, [], map}
use Prim.Native.Nat.{ℕ}
use Rattle.meaning.specs.Atoms.{Atom}
use Rattle.meaning.specs.Nodes.{Node}
use Rattle.meaning.specs.File.Parser.{Got, found, on, repeat}
use Rattle.meaning.specs.File.Grammar.{Component, Contents, limits, between, components, filled, nodes, start, finished, whole, driven_by, read_file}
use Rattle.meaning.proofs.File.Lists.{on_assoc}
use Rattle.parsing.specs.Stages.{times}
use Rattle.parsing.proofs.Parsers.{on_each}
use Rattle.parsing.proofs.Times.{contents}
use Rattle.tables.specs.Stages.{add_component, opened}
use Rattle.tables.proofs.Grammar.{counts_then, times_components}
use Rattle.formulas.specs.Stages.{read_nodes, read_starts}
use Rattle.formulas.proofs.Grammar.{times_nodes, times_starts}
use Rattle.reader.specs.Stages.{read_end, read_all}

module _ (file : List ℕ) where
  -- the file after the starts, after the nodes and after the components
  ended : (W : ℕ) (cs : List Component) (ns : List (Node Atom)) (at : ℕ)
      → on (read_starts (contents [] W cs ns []) file at) (λ k at. read_end k file at)
      ≡ on (between limits 0 limits.starts 3 file at)
      (λ m at. on (repeat (start limits (map (λ c. c.states) cs)) m file at)
      (λ ss at. on (finished limits file at) (λ x at. found (contents [] W cs ns ss) at)))
  ended W cs ns at =
      on_assoc (between limits 0 limits.starts 3 file at) _ _
      ∙ on_each (between limits 0 limits.starts 3 file at) _ _
      (λ m at e. ap (λ g. on g (λ k at. read_end k file at)) (times_starts file m W [] cs ns at)
      ∙ on_assoc (repeat (start limits (map (λ c. c.states) cs)) m file at) _ _)

  formula : (W : ℕ) (cs : List Component) (at : ℕ)
      → on (read_nodes (contents [] W cs [] []) file at) (λ k at. on (read_starts k file at) (λ k at. read_end k file at))
      ≡ on (between limits 1 limits.nodes 3 file at)
      (λ c at. on (nodes limits W (driven_by 0 cs) c file at)
      (λ ns at. on (between limits 0 limits.starts 3 file at)
      (λ m at. on (repeat (start limits (map (λ c. c.states) cs)) m file at)
      (λ ss at. on (finished limits file at) (λ x at. found (contents [] W cs ns ss) at)))))
  formula W cs at =
      on_assoc (between limits 1 limits.nodes 3 file at) _ _
      ∙ on_each (between limits 1 limits.nodes 3 file at) _ _
      (λ c at e. ap (λ g. on g (λ k at. on (read_starts k file at) (λ k at. read_end k file at))) (times_nodes file c W [] cs [] at)
      ∙ on_assoc (nodes limits W (driven_by 0 cs) c file at) _ _
      ∙ on_each (nodes limits W (driven_by 0 cs) c file at) _ _ (λ ns at e. ended W cs ns at))

  abbrev rest : Contents → ℕ → Got Contents
  rest k at = on (read_nodes k file at) (λ k at. on (read_starts k file at) (λ k at. read_end k file at))

  pub read_all_lem : read_all file 0 ≡ read_file file
  unfolding whole
  read_all_lem =
      ap (λ g. on g rest) (counts_then file (λ n W at. times n add_component (opened W) file at))
      ∙ on_assoc (between limits 1 limits.components 3 file 0) _ rest
      ∙ on_each (between limits 1 limits.components 3 file 0) _ _
      (λ n at e. on_assoc (between limits 0 limits.signals 3 file at) _ rest
      ∙ on_each (between limits 0 limits.signals 3 file at) _ _
      (λ W at e. ap (λ g. on g rest) (times_components file n W at)
      ∙ on_assoc (components limits filled W n file at) _ rest
      ∙ on_each (components limits filled W n file at) _ _ (λ cs at e. formula W cs at)))

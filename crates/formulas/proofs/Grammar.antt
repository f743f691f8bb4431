-- The stages of the code are the grammar's: the nodes one after the other, and the starts.
use mathlib.Core.Path.{◌≡◌, refl}
use mathlib.Core.List.{List, [], ◌∷◌, map}
use lib.ListN.{length, length-append}
use Prim.Native.Nat.{ℕ, ◌+◌}
use Rattle.meaning.specs.Atoms.{Atom, Set}
use Rattle.meaning.specs.Nodes.{Node}
use Rattle.meaning.specs.File.Parser.{Done, done, repeat}
use Rattle.meaning.specs.File.Grammar.{Component, limits, node, nodes, start, driven_by}
use Rattle.parsing.specs.Stages.{mapped, times}
use Rattle.parsing.proofs.Times.{contents, list_times}
use Rattle.formulas.specs.Stages.{add_node, add_start}

module _ (file : List ℕ) (n : ℕ) (W : ℕ) where
  pub times_nodes : (ds : List Set) (cs : List Component) (ss : List (List ℕ)) (at : ℕ)
      → times n add_node (contents ds W cs [] ss) file at
      ≡ mapped (λ ns. contents ds W cs ns ss) (nodes limits W (driven_by 0 cs) n file at)
  times_nodes ds cs ss at =
      list_times file (node limits W (driven_by 0 cs)) (λ k a. k + 1) length (λ ns. contents ds W cs ns ss) add_node (λ ns at. refl)
      (λ ns a. length-append ns (a ∷ [])) n [] at

  pub times_starts : (ds : List Set) (cs : List Component) (ns : List (Node Atom)) (at : ℕ)
      → times n add_start (contents ds W cs ns []) file at
      ≡ mapped (contents ds W cs ns) (repeat (start limits (map (λ c. c.states) cs)) n file at)
  times_starts ds cs ns at =
      list_times file (λ (s : Done). start limits (map (λ c. c.states) cs)) (λ s a. s) (λ ss. done) (contents ds W cs ns) add_start
      (λ ss at. refl) (λ ss a. refl) n [] at

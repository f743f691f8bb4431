-- The way down from the roots of a formula (specs/Under): its nodes and the roots stand in arrays.
use mathlib.Core.Path.{◌≡◌, refl, sym, subst, ◌∙◌, ap}
use mathlib.Core.Bool.{true, false}
use mathlib.Core.List.{List, [], ◌∷◌}
use lib.Dec.{T}
use lib.ListN.{length, get_or, take}
use native.Mathlib.Omega.{arith}
use Prim.Native.Nat.{ℕ, zero, suc, ◌+◌, ◌-◌, ◌^◌, ◌≤◌, ◌<◌}
use Rattle.words.specs.Sets.{has, insert}
use Rattle.meaning.specs.Tests.{All}
use Rattle.meaning.specs.Atoms.{Atom}
use Rattle.meaning.specs.Nodes as formula
use Rattle.instrument.specs.declared.Node.{Node}
use Rattle.instrument.specs.declared.Roots.{Roots}
use Rattle.instrument.specs.Layout.{node_of}
use Rattle.instrument.specs.Roots.{GoodRoots, listed_roots}
use Rattle.instrument.specs.ByKind.{stored_node}
use Rattle.instrument.proofs.Nodes.{node_in}
use Rattle.meaning.specs.File.Grammar.{with_all}
use Rattle.meaning.proofs.Basic.Lists.{all_map}
use Rattle.marks.specs.NodeMarks.{Listing}
use Rattle.subformulas.specs.Under.{under_roots, with_operands, Reaching}
use Rattle.subformulas.proofs.Reaching.{operands_more, reaching_start, reaching_in, reaching_out, reaching_end}

-- what holds of the first so many places of a list holds of all members of that part
pub all_taken : (P : ℕ → Type 0) (l : List ℕ) (n : ℕ) → ((j : ℕ) → j < n → P (get_or l j 0)) → All P (take n l)
all_taken P l zero h = tt
all_taken P [] (suc n) h = tt
all_taken P (v ∷ l) (suc n) h = (h 0 (omega arith), all_taken P l n (λ j p. h (suc j) (omega arith)))

-- the roots are nodes
pub good_each : (n : ℕ) (r : Roots) → GoodRoots n r → All (λ k. k < n) (listed_roots r)
good_each n r good = all_taken (λ k. k < n) r.nodes r.count good.each

pub good_below : {n : ℕ} {r : Roots} → GoodRoots n r → n ≤ 24 → GoodRoots 24 r
good_below good l = record { some = good.some; few = good.few; each = λ j h. omega (arith, good.each j h) }

-- one root more in the set
pub with_more : (set : ℕ) (l : List ℕ) (j : ℕ) → j < length l → insert (with_all set (take j l)) (get_or l j 0) ≡ with_all set (take (j + 1) l)
unfolding with_all
with_more set [] j h = absurd (omega arith)
with_more set (v ∷ l) zero h = refl
with_more set (v ∷ l) (suc j) h =
    let e : suc (j + 1) ≡ suc j + 1 = omega arith in
    with_more (insert set v) l j (omega arith) ∙ ap (λ k. with_all set (take k (v ∷ l))) e

module _ (nodes : List Node) (count : ℕ) (ns : List (formula.Node Atom)) (listed : Listing nodes count ns) (roots : List ℕ) (below : All (λ k. k < count) roots) where
  each : All (λ k. k < length ns) roots
  each = all_map (λ k l. omega (arith, l, listed.long)) roots below

  pub root_start : Reaching ns roots count (with_all 0 roots)
  root_start = rw listed.long (reaching_start ns listed.earlier roots each)

  module _ (k set : ℕ) (some : 0 < k) (s : Reaching ns roots k set) where
    pub root_in : (m : Node) (more : ℕ) → m ≡ get_or nodes (k - 1) (node_of formula.Node.top) → more ≡ with_operands set m
        → true ≡ has set (k - 1) → Reaching ns roots (k - 1) more
    root_in m more e f h =
        reaching_in ns listed.earlier roots each k set some s (k - 1) more (omega arith) (subst T h tt)
        (rw f (operands_more set m node (ap stored_node (e ∙ listed.at (k - 1)) ∙ node_in node)))
      where
        node : formula.Node Atom
        node = formula.node_at ns (k - 1)

    pub root_out : false ≡ has set (k - 1) → Reaching ns roots (k - 1) set
    root_out h = reaching_out ns listed.earlier roots each k set some s (k - 1) (omega arith) (λ z. subst T (sym h) z)

  pub root_end : (k set : ℕ) → k ≤ 0 → set < 2 ^ 32 → Reaching ns roots k set → set ≡ under_roots ns roots
  root_end k set z l s =
      let e : k ≡ 0 = omega arith in
      reaching_end ns listed.earlier roots each set l (omega (arith, listed.room))
      (subst (λ k. Reaching ns roots k set) e s)

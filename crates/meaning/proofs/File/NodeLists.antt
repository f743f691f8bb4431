-- What the grammar's parsers of nodes promise: operands are earlier nodes, and named signals are driven (specs/File/Grammar, Promise).
use mathlib.Core.Path.{◌≡◌, refl, subst, sym}
use mathlib.Core.Bool.{◌&&◌, true}
use mathlib.Core.List.{List}
use lib.Dec.{T, lt→ltb, ltb}
use lib.ListN.{get_or-eq_default, length}
use native.Mathlib.Decide.{dec_lt}
use native.Mathlib.Omega.{arith}
use Prim.Native.Nat.{◌*◌, ◌+◌, ◌<◌, ◌≤◌, suc, zero, ℕ}
use Rattle.words.specs.Sets.{has}
use Rattle.meaning.specs.Atoms.{Atom, on_signal}
use Rattle.meaning.specs.File.Grammar.{Limits, binary, earlier, node, nodes, operands as node_of, unary}
use Rattle.meaning.specs.File.Parser.{Parser}
use Rattle.meaning.specs.Nodes.{Earlier, Node, atom, eg, eu, ex, neg, node_at, or, top}
use Rattle.meaning.specs.Reference.Nodes.{operands}
use Rattle.meaning.specs.Reference.Tests.{all_of}
use Rattle.meaning.proofs.Basic.Booleans.{and_in}
use Rattle.meaning.proofs.Basic.Bounded.{all_in}
use Rattle.meaning.proofs.File.Lists.{Along, Sequence, along_places}
use Rattle.meaning.proofs.File.Nodes.{earlier_sound}
use Rattle.meaning.proofs.File.Numbers.{reads_less, reads_named, reads_number, width}
use Rattle.meaning.proofs.File.Parsers.{Reads, reads_bind, reads_give, reads_list, weaker}

-- the signal that the node names, if it names one, is in the set
abbrev pub Named : ℕ → Node Atom → Type 0
Named driven top = Unit {0}
Named driven (atom (on_signal w)) = T (has driven w)
Named driven (neg i) = Unit {0}
Named driven (or i j) = Unit {0}
Named driven (ex i) = Unit {0}
Named driven (eg i) = Unit {0}
Named driven (eu i j) = Unit {0}

-- node k as it was read, and all nodes
pub record NodeRead (driven k : ℕ) (m : Node Atom) : Type 0 where
  pub before : T (all_of (λ i. ltb i k) (operands m))
  pub names : Named driven m

pub record NodesRead (driven n : ℕ) (ns : List (Node Atom)) : Type 0 where
  pub long : length ns ≡ n
  pub earlier : Earlier ns
  pub names : (k w : ℕ) → node_at ns k ≡ atom (on_signal w) → T (has driven w)

-- one operand, and two
one : (i k : ℕ) → i < k → T (ltb i k && true)
one i k l = and_in (ltb i k) true (lt→ltb i k l) tt

two : (i j k : ℕ) → i < k → j < k → T (ltb i k && (ltb j k && true))
two i j k l m = and_in (ltb i k) (ltb j k && true) (lt→ltb i k l) (one j k m)

module _ (L : Limits) (W driven : ℕ) where
  reads_earlier : (k : ℕ) → Reads (earlier L k) (width L) (λ v. v < k)
  reads_earlier k = reads_less L _ _

  -- a node with one operand, and with two
  reads_unary : (k : ℕ) (f : ℕ → Node Atom) {operand : Parser ℕ} {P : ℕ → Type 0} → Reads operand (width L) P
      → ((a : ℕ) → P a → NodeRead driven k (f a)) → Reads (unary L f operand) (2 * width L) (NodeRead driven k)
  reads_unary k f r h =
      weaker (omega arith) (λ m q. q) (reads_bind r (λ a p. reads_give (NodeRead driven k) (f a) (h a p)))

  reads_binary : (k : ℕ) (f : ℕ → ℕ → Node Atom) → ((a b : ℕ) → a < k → b < k → NodeRead driven k (f a b))
      → Reads (binary L f k) (2 * width L) (NodeRead driven k)
  reads_binary k f h =
      weaker (omega arith) (λ m q. q)
      (reads_bind (reads_earlier k) (λ a p. reads_bind (reads_earlier k) (λ b q. reads_give (NodeRead driven k) (f a b) (h a b p q))))

  reads_operands : (k kind : ℕ) → Reads (node_of L W driven k kind) (2 * width L) (NodeRead driven k)
  reads_operands k zero = weaker (omega arith) (λ m q. q) (reads_give (NodeRead driven k) top (record { before = tt; names = tt }))
  reads_operands k (suc zero) =
      reads_unary k (λ w. atom (on_signal w)) (reads_named L _ _) (λ v h. record { before = tt; names = h })
  reads_operands k (suc (suc zero)) =
      reads_unary k neg (reads_earlier k) (λ v h. record { before = one v k h; names = tt })
  reads_operands k (suc (suc (suc zero))) = reads_binary k or (λ a b p q. record { before = two a b k p q; names = tt })
  reads_operands k (suc (suc (suc (suc zero)))) =
      reads_unary k ex (reads_earlier k) (λ v h. record { before = one v k h; names = tt })
  reads_operands k (suc (suc (suc (suc (suc zero))))) =
      reads_unary k eg (reads_earlier k) (λ v h. record { before = one v k h; names = tt })
  reads_operands k (suc (suc (suc (suc (suc (suc zero)))))) = reads_binary k eu (λ a b p q. record { before = two a b k p q; names = tt })
  reads_operands k (suc (suc (suc (suc (suc (suc (suc unknown))))))) = record { says = λ file at. tt; same = λ j file at h. refl }

  pub reads_node : (k : ℕ) → Reads (node L W driven k) (3 * width L) (NodeRead driven k)
  unfolding node
  reads_node k = weaker (omega arith) (λ m q. q) (reads_bind (reads_number L) (λ kind u. reads_operands k kind))

  pub reads_nodes : (n : ℕ) → n ≤ L.nodes → Reads (nodes L W driven n) (L.nodes * (3 * width L)) (NodesRead driven n)
  reads_nodes n l =
      weaker (omega arith) made (reads_list (node L W driven) (λ k a. k + 1) (NodeRead driven) reads_node n L.nodes l 0)
    where
      at : (ns : List (Node Atom)) → Along (NodeRead driven) (λ k a. k + 1) 0 ns → (k : ℕ) → k < length ns → NodeRead driven k (node_at ns k)
      at ns h k l = let e : 0 + k ≡ k = omega arith in subst (λ j. NodeRead driven j (node_at ns k)) e (along_places (NodeRead driven) top 0 ns h k l)

      -- past the last node there is true, which names nothing
      names : (ns : List (Node Atom)) → Along (NodeRead driven) (λ k a. k + 1) 0 ns → (k : ℕ) → Named driven (node_at ns k)
      names ns h k =
          elim (dec_lt k (length ns)) [
            | yes l ↦ (at ns h k l).names
            | no l ↦ subst (Named driven) (sym (get_or-eq_default ns top {n = k} (omega arith))) tt
          ]

      made : (ns : List (Node Atom)) → Sequence (NodeRead driven) (λ k a. k + 1) n 0 ns → NodesRead driven n ns
      made ns h =
          record {
            long = h.long;
            earlier =
                earlier_sound ns
                (all_in (length ns) (λ k. all_of (λ i. ltb i k) (operands (node_at ns k))) (λ k l. (at ns h.items k l).before));
            names = λ k w e. subst (Named driven) e (names ns h.items k);
          }

-- A node by its kind, and a signal that it names, in the steps of the code (specs/File/Grammar of crate meaning, `named`, `operands`, `node`).
use mathlib.Core.Path.{◌≡◌, refl, ap}
use mathlib.Core.Bool.{true, false}
use mathlib.Core.List.{List}
use native.Mathlib.Omega.{arith}
use borrow.Author.Tests.{lt-ltb, le-ltb}
use Prim.Native.Nat.{ℕ, suc, ◌-◌, ◌≤◌, ◌<◌}
use Rattle.words.specs.Sets.{has}
use Rattle.meaning.specs.Atoms.{Atom}
use Rattle.meaning.specs.Nodes as formula
use Rattle.meaning.specs.File.Parser.{Got, found, fault, on}
use Rattle.meaning.specs.File.Grammar.{number, less_than, named, operands, node, limits}
use Rattle.instrument.specs.declared.Node.{Node}
use Rattle.instrument.specs.Layout.{node_of}
use Rattle.parsing.specs.Stages.{mapped}
use Rattle.formulas.specs.Formulas.{one_operand, two_operands}

-- a node of one operand that was read, and of two
pub one : (f : ℕ → formula.Node Atom) (kind : ℕ) → ((a : ℕ) → one_operand kind a ≡ node_of (f a)) → (g : Got ℕ)
    → mapped (one_operand kind) g ≡ mapped node_of (on g (λ a at. found (f a) at))
one f kind h (found a at) = ap (λ n. found n at) (h a)
one f kind h (fault r) = refl

pub two : (f : ℕ → ℕ → formula.Node Atom) (kind : ℕ) → ((a b : ℕ) → ◌≡◌ {A = Node} (record { kind = kind; left = a; right = b }) (node_of (f a b)))
    → (g : Got ℕ) (other : ℕ → Got ℕ)
    → on g (λ a n. on (other n) (λ b at. found (record { kind = kind; left = a; right = b }) at))
    ≡ mapped node_of (on g (λ a n. on (other n) (λ b at. found (f a b) at)))
two f kind h (found a n) other = second (other n)
  where
    second : (g : Got ℕ)
        → on g (λ b at. found (record { kind = kind; left = a; right = b }) at) ≡ mapped node_of (on g (λ b at. found (f a b) at))
    second (found b at) = ap (λ n. found n at) (h a b)
    second (fault r) = refl
two f kind h (fault r) other = refl

module _ (kind k : ℕ) (file : List ℕ) (at : ℕ) where
  pub two_first : (r : ℕ) → less_than limits k 7 file at ≡ fault r → two_operands kind k file at ≡ fault r
  two_first r e = rw e refl

  pub two_second : (a next r : ℕ) → less_than limits k 7 file at ≡ found a next → less_than limits k 7 file next ≡ fault r
      → two_operands kind k file at ≡ fault r
  two_second a next r e f = rw (e, f) refl

  pub two_good : (a next b end : ℕ) → less_than limits k 7 file at ≡ found a next → less_than limits k 7 file next ≡ found b end
      → two_operands kind k file at ≡ found (record { kind = kind; left = a; right = b }) end
  two_good a next b end e f = rw (e, f) refl

module _ (W driven k : ℕ) (file : List ℕ) (at : ℕ) where
  -- 7 and above are refused
  pub unknown : (kind : ℕ) → 7 ≤ kind → operands limits W driven k kind file at ≡ fault 7
  unknown kind h =
      let e : kind ≡ suc (suc (suc (suc (suc (suc (suc (kind - 7))))))) = omega arith in
      ap (λ (j : ℕ). operands limits W driven k j file at) e

  pub node_stopped : (r : ℕ) → number limits file at ≡ fault r → node limits W driven k file at ≡ fault r
  unfolding node
  node_stopped r e = rw e

  pub node_kind : (kind next : ℕ) → number limits file at ≡ found kind next
      → node limits W driven k file at ≡ operands limits W driven k kind file next
  unfolding node
  node_kind kind next e = rw e refl

-- a signal of the file that a component drives
module _ (W driven : ℕ) (file : List ℕ) (at : ℕ) where
  pub named_stopped : (r : ℕ) → number limits file at ≡ fault r → named limits W driven file at ≡ fault r
  unfolding named
  named_stopped r e = rw e

  module _ (v next : ℕ) (e : number limits file at ≡ found v next) where
    pub named_high : W ≤ v → named limits W driven file at ≡ fault 8
    unfolding named
    named_high h = rw (e, le-ltb v W h)

    pub named_good : v < W → has driven v ≡ true → named limits W driven file at ≡ found v next
    unfolding named
    named_good h d = rw (e, lt-ltb v W h, d)

    pub named_undriven : v < W → has driven v ≡ false → named limits W driven file at ≡ fault 8
    unfolding named
    named_undriven h d = rw (e, lt-ltb v W h, d)

-- A number that was judged (specs/File/Grammar of crate meaning, `between`) is one of those that were asked for.
use mathlib.Core.Path.{◌≡◌, refl}
use mathlib.Core.Bool.{Bool, true, false, ◌&&◌}
use mathlib.Core.List.{List}
use lib.Dec.{leb}
use native.Mathlib.Omega.{arith}
use borrow.Author.Tests.{leb-true}
use Prim.Native.Nat.{ℕ, ◌≤◌}
use Rattle.meaning.specs.File.Parser.{Got, found, fault, demand, on}
use Rattle.meaning.specs.File.Grammar.{number, between, limits}

pub between_le : (lo hi r : ℕ) (file : List ℕ) (at v next : ℕ) → found v next ≡ between limits lo hi r file at → v ≤ hi
unfolding between
between_le lo hi r file at v next e = go (number limits file at) e
  where
    judged : (u n : ℕ) (b c : Bool) → leb u hi ≡ c → found v next ≡ on (demand (b && c) r file n) (λ x m. found u m) → v ≤ hi
    judged u n true true p q = let z : u ≡ v = cc in omega (arith, leb-true)
    judged u n true false p q = let z : ◌≡◌ {A = ℕ} 0 1 = cc in omega arith
    judged u n false c p q = let z : ◌≡◌ {A = ℕ} 0 1 = cc in omega arith

    go : (g : Got ℕ) → found v next ≡ on g (λ u n. on (demand (leb lo u && leb u hi) r file n) (λ x m. found u m)) → v ≤ hi
    go (found u n) q = judged u n (leb lo u) (leb u hi) refl q
    go (fault s) q = let z : ◌≡◌ {A = ℕ} 0 1 = cc in omega arith

-- A listed signal, in the steps of the code (specs/File/Grammar of crate meaning, `signal`).
use mathlib.Core.Path.{◌≡◌, refl}
use mathlib.Core.Bool.{Bool, true, false, ◌&&◌, not}
use mathlib.Core.List.{List}
use lib.Dec.{ltb, leb}
use native.Mathlib.Omega.{arith}
use borrow.Author.Tests.{ltb-true}
use Prim.Native.Nat.{ℕ, ◌<◌}
use Rattle.words.specs.Sets.{has}
use Rattle.meaning.specs.File.Parser.{Got, found, fault, demand, on}
use Rattle.meaning.specs.File.Grammar.{number, signal, limits}

module _ (W taken low : ℕ) (file : List ℕ) (at : ℕ) where
  pub signal_below : (v next : ℕ) → found v next ≡ signal limits W taken low file at → v < W
  unfolding signal
  signal_below v next e = go (number limits file at) e
    where
      judged : (u n : ℕ) (a b c : Bool) → ltb u W ≡ b
          → found v next ≡ on (demand (a && b) 4 file n) (λ x m. on (demand c 5 file m) (λ x m. found u m)) → v < W
      judged u n true true true p q = let z : u ≡ v = cc in omega (arith, ltb-true)
      judged u n true true false p q = let z : ◌≡◌ {A = ℕ} 0 1 = cc in omega arith
      judged u n true false c p q = let z : ◌≡◌ {A = ℕ} 0 1 = cc in omega arith
      judged u n false b c p q = let z : ◌≡◌ {A = ℕ} 0 1 = cc in omega arith

      go : (g : Got ℕ)
          → found v next
          ≡ on g (λ u n. on (demand (leb low u && ltb u W) 4 file n) (λ x m. on (demand (not (has taken u)) 5 file m) (λ x m. found u m)))
          → v < W
      go (found u n) q = judged u n (leb low u) (ltb u W) (not (has taken u)) refl q
      go (fault r) q = let z : ◌≡◌ {A = ℕ} 0 1 = cc in omega arith

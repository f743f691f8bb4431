-- A component's stretch lies inside the file and before its byte 2 ^ 16, since no good file is longer than `longest_file` bytes: a place in it, and how
-- many bytes lie between two of them, fit 16 bits. A file that is refused may be longer.
use mathlib.Core.Path.{◌≡◌, refl}
use mathlib.Core.List.{List}
use lib.Dec.{ltb}
use lib.ListN.{length}
use native.Mathlib.Omega.{arith}
use Prim.Native.Nat.{ℕ, ◌^◌, ◌≤◌, ◌<◌}
use Rattle.meaning.specs.File.Parser.{Got, found, fault, on}
use Rattle.meaning.specs.File.Number.{choose}
use Rattle.meaning.specs.File.Grammar.{Contents, read_file}
use Rattle.meaning.specs.File.Stretches.{Stretch, stretch_of, located, start_of, end_of}
use Rattle.meaning.proofs.File.Longest.{no_longer}
use Rattle.meaning.proofs.File.Stretched.{located_lies}

module _ (file : List ℕ) (c : ℕ) where
  -- a component is found in accepted files only
  located_short : (s : Stretch) (at : ℕ) → located file c ≡ found s at → s.end < 2 ^ 16
  located_short s at e = go (read_file file) refl e
    where
      go : (g : Got Contents) → read_file file ≡ g
          → on g (λ k end. choose (ltb c (length k.components)) (stretch_of c file 0) (fault 3)) ≡ found s at → s.end < 2 ^ 16
      go (found k end) r q = omega (arith, (no_longer file k end r).1, (located_lies file c s at e).within)
      go (fault n) r q = let z : ◌≡◌ {A = ℕ} 0 1 = cc in let y : ⊥ = omega arith in absurd y

  -- the two places, also where the question is refused: from 0 to 0
  pub inside : (start_of (located file c) ≤ end_of (located file c)) × (end_of (located file c) ≤ length file)
  inside = go (located file c) refl
    where
      go : (g : Got Stretch) → located file c ≡ g → (start_of g ≤ end_of g) × (end_of g ≤ length file)
      go (found s e) q = let l = located_lies file c s e q in (omega (arith, l.some), l.within)
      go (fault r) q = (omega arith, omega arith)

  pub short : end_of (located file c) < 2 ^ 16
  short = go (located file c) refl
    where
      go : (g : Got Stretch) → located file c ≡ g → end_of g < 2 ^ 16
      go (found s e) q = located_short s e q
      go (fault r) q = omega arith

-- What a component's part of the file means, and that it is empty exactly where the file is refused or has no such component.
use mathlib.Core.Path.{◌≡◌, refl, sym, ap, ap₂, subst, ◌∙◌}
use mathlib.Core.Bool.{Bool, true, false}
use mathlib.Core.Logic.{◌≢◌}
use mathlib.Core.List.{List, [], ◌++◌}
use lib.Dec.{T, ltb, ltb→lt}
use lib.ListN.{length, take, drop, take-append-drop, length-drop}
use lib.Seq.{length-take-le}
use native.Mathlib.Omega.{arith}
use Prim.Native.Nat.{ℕ, ◌+◌, ◌-◌}
use Rattle.meaning.specs.File.Parser.{Got, found, fault, on}
use Rattle.meaning.specs.File.Number.{choose}
use Rattle.meaning.specs.File.Grammar.{Contents, limits, component, filled, driven_by, read_file}
use Rattle.meaning.specs.File.Promise.{no_component, component_at}
use Rattle.meaning.specs.File.Stretches.{Stretch, stretch_of, located}
use Rattle.answers.specs.Outcomes.{bytes_of, component_bytes_of}
use Rattle.answers.specs.Means.{HasComponent, StretchMeans}
use Rattle.meaning.proofs.File.Stretched.{Lies, located_lies, component_stands}

module _ (file : List ℕ) (c : ℕ) where
  -- a component is located only where there is one
  pub has_component : (s : Stretch) (at : ℕ) → located file c ≡ found s at → HasComponent file c
  has_component s at e = go (read_file file) refl e
    where
      pick : (k : Contents) (end : ℕ) → read_file file ≡ found k end → (b : Bool) → ltb c (length k.components) ≡ b
          → choose b (stretch_of c file 0) (fault 3) ≡ found s at → HasComponent file c
      pick k end r true t q = record { contents = k; end = end; read = r; below = ltb→lt c (length k.components) (subst T (sym t) tt) }
      pick k end r false t q = let z : ◌≡◌ {A = ℕ} 0 1 = cc in let y : ⊥ = omega arith in absurd y

      go : (g : Got Contents) → read_file file ≡ g
          → on g (λ k end. choose (ltb c (length k.components)) (stretch_of c file 0) (fault 3)) ≡ found s at → HasComponent file c
      go (found k end) r q = pick k end r (ltb c (length k.components)) refl q
      go (fault n) r q = let z : ◌≡◌ {A = ℕ} 0 1 = cc in let y : ⊥ = omega arith in absurd y

  module _ (h : HasComponent file c) where
    abbrev k : Contents
    k = h.contents

    of_stretch : (s : Stretch) → Lies file s
        → component limits filled k.signals (driven_by 0 (take c k.components)) file s.start ≡ found (component_at k c) s.end
        → StretchMeans file c (take (s.end - s.start) (drop s.start file))
    of_stretch s l r =
        let n : length (take s.start file) ≡ s.start = length-take-le s.start file (omega (arith, l.some, l.within)) in
        let m : length (take (s.end - s.start) (drop s.start file)) ≡ s.end - s.start =
        length-take-le (s.end - s.start) (drop s.start file) (omega (arith, length-drop s.start file, l.within)) in
        let e : s.start + (s.end - s.start) ≡ s.end = omega (arith, l.some) in
        record {
          has = h;
          some = λ z. omega (arith, ap length z, m, l.some);
          before = take s.start file;
          after = drop (s.end - s.start) (drop s.start file);
          lies =
              ap (λ t. take s.start file ++ t) (take-append-drop (s.end - s.start) (drop s.start file))
              ∙ take-append-drop s.start file;
          itself =
              ap (λ at. component limits filled k.signals (driven_by 0 (take c k.components)) file at) n
              ∙ (r ∙ ap (λ at. found (component_at k c) at) (sym (ap₂ (λ a b. a + b) n m ∙ e)));
        }

    pub own_part : StretchMeans file c (component_bytes_of file c)
    own_part =
        let s = component_stands file k h.end h.read c h.below no_component in
        subst (λ g. StretchMeans file c (bytes_of file g)) (sym s.is_located)
        (of_stretch s.stretch (located_lies file c s.stretch s.stretch.end s.is_located) s.is_read)

  pub part_means : (part : List ℕ) → part ≡ component_bytes_of file c → part ≢ [] → StretchMeans file c part
  part_means part e p = go (located file c) refl
    where
      go : (g : Got Stretch) → located file c ≡ g → StretchMeans file c part
      go (found s at) q = subst (StretchMeans file c) (sym e) (own_part (has_component s at q))
      go (fault r) q = absurd (p (e ∙ ap (bytes_of file) q))

  pub part_some : (part : List ℕ) → part ≡ component_bytes_of file c → HasComponent file c → part ≢ []
  part_some part e h z = (own_part h).some (sym e ∙ z)

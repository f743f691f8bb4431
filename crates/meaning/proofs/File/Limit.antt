-- The bytes that the listing program reads, `listing_bytes` at most, settle every longer input too (document 01, The instrument file): all numbers of
-- a file together have fewer bytes than that, so reading ends, or meets its first fault, before a byte that was left out.
use mathlib.Core.Path.{◌∙◌, ◌≡◌, ap, refl}
use mathlib.Core.Bool.{Bool, false, true}
use mathlib.Core.List.{List}
use lib.Dec.{T, lit≤, ltb, ltb→lt}
use lib.ListN.{length, take}
use native.Mathlib.Omega.{arith}
use Prim.Native.Nat.{◌*◌, ◌+◌, ◌-◌, ◌<◌, ◌≤◌, ℕ}
use Rattle.meaning.specs.File.Grammar.{Limits, between, component, components, driven_by, filled, limits, read_file, whole, with_all}
use Rattle.meaning.specs.File.Number.{choose}
use Rattle.meaning.specs.File.Parser.{Got, fault, found, on}
use Rattle.meaning.specs.File.Promise.{Promised, listing_bytes}
use Rattle.meaning.specs.File.Stretches.{Stretch, end_of, located, place, stretch_of}
use Rattle.meaning.proofs.File.Components.{ComponentRead, component_numbers, reads_component}
use Rattle.meaning.proofs.File.Lists.{Says, Told, on_same, on_says, told_found, told_on}
use Rattle.meaning.proofs.File.Numbers.{reads_between, width}
use Rattle.meaning.proofs.File.Parsers.{Reads, reads_bind, reads_give, reads_list, weaker}
use Rattle.meaning.proofs.File.Reads.{file_numbers, reads_whole}

-- under any limits, bytes enough for the longest file and one more
pub settled : (L : Limits) (k : ℕ) → file_numbers L * width L + 1 ≤ k → (file : List ℕ) → whole L filled (take k file) 0 ≡ whole L filled file 0
settled L k h file = (reads_whole L).same k file 0 (omega arith)

-- the same refusal, or the same contents with the same end
pub limit : (file : List ℕ) → read_file (take listing_bytes file) ≡ read_file file
limit file = settled limits listing_bytes (lit≤ tt) file

-- ---- where a component stands
-- the components up to it and the two counts before them
abbrev stretch_numbers : ℕ
stretch_numbers = 2 + limits.components * component_numbers limits

reads_place : Reads place 0 (λ n. Unit {0})
reads_place = record { says = λ file at. (tt, omega arith); same = λ k file at h. refl }

reads_stretch : (c : ℕ) → c < limits.components → Reads (stretch_of c) (stretch_numbers * width limits) (λ s. Unit {0})
reads_stretch c l =
    weaker (lit≤ tt) (λ s h. h)
    (reads_bind (reads_between limits _ _ _) (λ n hn.
    reads_bind (reads_between limits _ _ _) (λ W hW.
    reads_bind (reads_list (component limits filled W) (λ driven c. with_all driven c.outputs) (ComponentRead limits W) (reads_component limits W) c
    (limits.components - 1) (omega arith) 0) (λ cs qc.
    reads_bind reads_place (λ start u.
    reads_bind (reads_component limits W (driven_by 0 cs)) (λ t q.
    reads_bind reads_place (λ end u.
    reads_give (λ s. Unit {0}) (record { start = start; end = end }) tt)))))))

stretch_limit : (file : List ℕ) (c : ℕ) → c < limits.components → stretch_of c (take listing_bytes file) 0 ≡ stretch_of c file 0
stretch_limit file c l = (reads_stretch c l).same listing_bytes file 0 (lit≤ tt)

pub located_limit : (file : List ℕ) (c : ℕ) → located (take listing_bytes file) c ≡ located file c
located_limit file c =
    ap (λ g. on g (λ k end. choose (ltb c (length k.components)) (stretch_of c (take listing_bytes file) 0) (fault 3))) (limit file)
    ∙ on_same (λ k e. Promised limits k × (e ≤ 0 + (file_numbers limits * width limits + 1))) (read_file file) _ _ ((reads_whole limits).says file 0)
    (λ k e p. one (ltb c (length k.components)) (λ h. omega (arith, ltb→lt c (length k.components) h, p.0.component_count.1)))
  where
    one : (t : Bool) → (T t → c < limits.components)
        → choose t (stretch_of c (take listing_bytes file) 0) (fault 3) ≡ choose t (stretch_of c file 0) (fault 3)
    one true h = stretch_limit file c (h tt)
    one false h = refl

-- and it ends within those bytes
told_any : {A : Type 0} (g : Got A) → Told (λ a n. Unit {0}) g
told_any (found a n) = record { told = tt }
told_any (fault r) = record { told = tt }

stretch_end : (file : List ℕ) (c : ℕ) → Told (λ s e. s.end ≡ e) (stretch_of c file 0)
stretch_end file c =
    told_on (told_any (between limits 1 limits.components 3 file 0)) (λ n at u.
    told_on (told_any (between limits 0 limits.signals 3 file at)) (λ W at u.
    told_on (told_any (components limits filled W c file at)) (λ cs at u.
    told_on (told_any (component limits filled W (driven_by 0 cs) file at)) (λ t end u.
    told_found _ (record { start = at; end = end }) end refl))))

pub located_end : (file : List ℕ) (c : ℕ) → end_of (located file c) ≤ listing_bytes
located_end file c =
    inside (located file c)
    (on_says (λ k e. Promised limits k × (e ≤ 0 + (file_numbers limits * width limits + 1))) (λ s e. s.end ≤ listing_bytes) (read_file file)
    (λ k end. choose (ltb c (length k.components)) (stretch_of c file 0) (fault 3)) ((reads_whole limits).says file 0)
    (λ k e p. one (ltb c (length k.components)) (λ h. omega (arith, ltb→lt c (length k.components) h, p.0.component_count.1))))
  where
    inside : (g : Got Stretch) → Says (λ s e. s.end ≤ listing_bytes) g → end_of g ≤ listing_bytes
    inside (found s e) h = h
    inside (fault r) h = omega arith

    both : (g : Got Stretch) → Says (λ s e. s.end ≡ e) g → Says (λ s e. Unit {0} × (e ≤ 0 + stretch_numbers * width limits)) g
        → Says (λ s e. s.end ≤ listing_bytes) g
    both (found s e) h k = omega (arith, h, k.1)
    both (fault r) h k = tt

    one : (t : Bool) → (T t → c < limits.components) → Says (λ s e. s.end ≤ listing_bytes) (choose t (stretch_of c file 0) (fault 3))
    one true h = both (stretch_of c file 0) (stretch_end file c).told ((reads_stretch c (h tt)).says file 0)
    one false h = tt

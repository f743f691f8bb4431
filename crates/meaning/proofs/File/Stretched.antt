-- What a located stretch is: it lies in the file and is not empty, every component of an accepted file has one, and from its start to its end
-- the component's own parser reads just that component.
use mathlib.Core.Path.{◌≡◌, refl, sym, ap, subst, ◌∙◌}
use mathlib.Core.Bool.{Bool, true, false}
use mathlib.Core.List.{List, ◌∷◌, map}
use lib.Dec.{ltb}
use lib.ListN.{length, get_or, take}
use borrow.Author.Tests.{lt-ltb}
use native.Mathlib.Omega.{arith}
use Prim.Native.Nat.{ℕ, zero, suc, ◌≤◌, ◌<◌}
use Rattle.meaning.specs.File.Parser.{Got, found, fault, on, list_of, repeat}
use Rattle.meaning.specs.File.Number.{choose}
use Rattle.meaning.specs.File.Grammar.{Component, Contents, limits, between, component, components, nodes, start, finished, with_all, driven_by}
use Rattle.meaning.specs.File.Grammar.{whole, filled, read_file}
use Rattle.meaning.specs.File.Stretches.{Stretch, stretch_of, located}
use Rattle.meaning.proofs.File.Lists.{Says, found_says, on_says, list_none, list_more}
use Rattle.meaning.proofs.File.Progress.{length_list}
use Rattle.meaning.proofs.File.Forward.{Past, between_past, list_onward, component_past}

-- the stretch lies in the file and is not empty
pub record Lies (file : List ℕ) (s : Stretch) : Type 0 where
  pub some : s.start < s.end
  pub within : s.end ≤ length file

module _ (file : List ℕ) where
  stretch_lies : (c : ℕ) → Says (λ s n. Lies file s) (stretch_of c file 0)
  stretch_lies c =
      on_says (Past file 0) (λ s n. Lies file s) (between limits 1 limits.components 3 file 0) _ (between_past file 1 limits.components 3 0)
      (λ n a p. on_says (Past file a) (λ s n. Lies file s) (between limits 0 limits.signals 3 file a) _
      (between_past file 0 limits.signals 3 a)
      (λ W b q. on_says (λ cs m. (b ≤ m) × (m ≤ length file)) (λ s n. Lies file s) (components limits filled W c file b) _
      (list_onward file (component limits filled W) (λ driven c. with_all driven c.outputs) (component_past file W) c 0 b q.1)
      (λ cs start h. on_says (Past file start) (λ s n. Lies file s) (component limits filled W (driven_by 0 cs) file start)
      (λ x end. found (record { start = start; end = end }) end) (component_past file W (driven_by 0 cs) start)
      (λ x end l. record { some = l.0; within = l.1 }))))

  pub located_lies : (c : ℕ) (s : Stretch) (at : ℕ) → located file c ≡ found s at → Lies file s
  located_lies c s at e = found_says (λ s n. Lies file s) (located file c) (go (read_file file)) s at e
    where
      pick : (b : Bool) → Says (λ s n. Lies file s) (choose b (stretch_of c file 0) (fault 3))
      pick true = stretch_lies c
      pick false = tt

      go : (g : Got Contents)
          → Says (λ s n. Lies file s) (on g (λ k end. choose (ltb c (length k.components)) (stretch_of c file 0) (fault 3)))
      go (found k end) = pick (ltb c (length k.components))
      go (fault r) = tt

-- how the contents of an accepted file begin
record Begun (file : List ℕ) (k : Contents) : Type 0 where
  many : ℕ
  after_many : ℕ
  after_signals : ℕ
  after_tables_lem : ℕ
  many_is : between limits 1 limits.components 3 file 0 ≡ found many after_many
  signals_is : between limits 0 limits.signals 3 file after_many ≡ found k.signals after_signals
  tables_are : components limits filled k.signals many file after_signals ≡ found k.components after_tables_lem

says_on : {A B : Type 0} (Q : B → ℕ → Type 0) (g : Got A) (f : A → ℕ → Got B) → ((a : A) (n : ℕ) → g ≡ found a n → Says Q (f a n))
    → Says Q (on g f)
says_on Q (found a n) f h = h a n refl
says_on Q (fault r) f h = tt

read_begun : (file : List ℕ) → Says (λ k e. Begun file k) (read_file file)
unfolding whole
read_begun file =
    says_on (λ k e. Begun file k) (between limits 1 limits.components 3 file 0) _
    (λ n a p. says_on (λ k e. Begun file k) (between limits 0 limits.signals 3 file a) _
    (λ W b q. says_on (λ k e. Begun file k) (components limits filled W n file b) _
    (λ cs d r. says_on (λ k e. Begun file k) (between limits 1 limits.nodes 3 file d) _
    (λ c e x. says_on (λ k e. Begun file k) (nodes limits W (driven_by 0 cs) c file e) _
    (λ ns e x. says_on (λ k e. Begun file k) (between limits 0 limits.starts 3 file e) _
    (λ m e x. says_on (λ k e. Begun file k) (repeat (start limits (map (λ c. c.states) cs)) m file e) _
    (λ ss e x. says_on (λ k e. Begun file k) (finished limits file e) _
    (λ y e x. record {
      many = n;
      after_many = a;
      after_signals = b;
      after_tables_lem = d;
      many_is = p;
      signals_is = q;
      tables_are = r;
    }))))))))

-- component c is read after those before it
record Reached (file : List ℕ) (W set at c : ℕ) (cs : List Component) (d : Component) : Type 0 where
  start : ℕ
  end : ℕ
  before : list_of (component limits filled W) (λ driven c. with_all driven c.outputs) c set file at ≡ found (take c cs) start
  itself : component limits filled W (driven_by set (take c cs)) file start ≡ found (get_or cs c d) end

module _ (file : List ℕ) (W : ℕ) (d : Component) where
  abbrev several : ℕ → ℕ → ℕ → Got (List Component)
  several n set at = list_of (component limits filled W) (λ driven c. with_all driven c.outputs) n set file at

  reached_next : (c set at m : ℕ) (a : Component) (rest : List Component) → component limits filled W set file at ≡ found a m
      → ((b : ℕ) → c ≡ suc b → Reached file W (with_all set a.outputs) m b rest d) → Reached file W set at c (a ∷ rest) d
  reached_next zero set at m a rest p h =
      record {
        start = at;
        end = m;
        before = list_none (component limits filled W) (λ driven c. with_all driven c.outputs) file set at;
        itself = p;
      }
  reached_next (suc c) set at m a rest p h =
      let r = h c refl in
      record {
        start = r.start;
        end = r.end;
        before =
            list_more (component limits filled W) (λ driven c. with_all driven c.outputs) file c set at
            ∙ ap (λ g. on g (λ a m. on (several c (with_all set a.outputs) m) (λ rest e. found (a ∷ rest) e))) p
            ∙ ap (λ g. on g (λ rest e. found (a ∷ rest) e)) r.before;
        itself = r.itself;
      }

  component_reached : (n c set at : ℕ) (cs : List Component) (e : ℕ) → c < n → several n set at ≡ found cs e → Reached file W set at c cs d
  component_reached zero c set at cs e l q = absurd (omega arith)
  component_reached (suc n) c set at cs e l q =
      first (component limits filled W set file at) refl (component_reached n)
      (sym (list_more (component limits filled W) (λ driven c. with_all driven c.outputs) file n set at) ∙ q)
    where
      Others : Type 0
      Others = (c set at : ℕ) (cs : List Component) (e : ℕ) → c < n → several n set at ≡ found cs e → Reached file W set at c cs d

      second : (a : Component) (m : ℕ) → component limits filled W set file at ≡ found a m → (h : Got (List Component))
          → several n (with_all set a.outputs) m ≡ h → Others → on h (λ rest e. found (a ∷ rest) e) ≡ found cs e → Reached file W set at c cs d
      second a m p (found rest f) r others q =
          let z : a ∷ rest ≡ cs = cc in
          subst (λ cs. Reached file W set at c cs d) z
          (reached_next c set at m a rest p (λ b x. others b (with_all set a.outputs) m rest f (omega arith) r))
      second a m p (fault s) r others q = let z : ◌≡◌ {A = ℕ} 0 1 = cc in let y : ⊥ = omega arith in absurd y

      first : (g : Got Component) → component limits filled W set file at ≡ g → Others
          → on g (λ a m. on (several n (with_all set a.outputs) m) (λ rest e. found (a ∷ rest) e)) ≡ found cs e → Reached file W set at c cs d
      first (found a m) p others q = second a m p (several n (with_all set a.outputs) m) refl others q
      first (fault s) p others q = let z : ◌≡◌ {A = ℕ} 0 1 = cc in let y : ⊥ = omega arith in absurd y

-- component c of an accepted file stands at the located stretch
pub record Stands (file : List ℕ) (k : Contents) (c : ℕ) (d : Component) : Type 0 where
  pub stretch : Stretch
  pub is_located : located file c ≡ found stretch stretch.end
  pub is_read : component limits filled k.signals (driven_by 0 (take c k.components)) file stretch.start
      ≡ found (get_or k.components c d) stretch.end

-- it is looked for where its number is one of the file's
pub located_accepted : (file : List ℕ) (k : Contents) (at : ℕ) → read_file file ≡ found k at → (c : ℕ) → c < length k.components
    → located file c ≡ stretch_of c file 0
located_accepted file k at e c l =
    ap (λ g. on g (λ k end. choose (ltb c (length k.components)) (stretch_of c file 0) (fault 3))) e
    ∙ ap (λ b. choose b (stretch_of c file 0) (fault 3)) (lt-ltb c (length k.components) l)

pub component_stands : (file : List ℕ) (k : Contents) (at : ℕ) → read_file file ≡ found k at → (c : ℕ) → c < length k.components
    → (d : Component) → Stands file k c d
component_stands file k at e c l d =
    let b = found_says (λ k e. Begun file k) (read_file file) (read_begun file) k at e in
    let n =
    length_list (component limits filled k.signals) (λ driven c. with_all driven c.outputs) file b.many 0 b.after_signals
    k.components b.after_tables_lem b.tables_are in
    let r = component_reached file k.signals d b.many c 0 b.after_signals k.components b.after_tables_lem (omega arith) b.tables_are in
    record {
      stretch = record { start = r.start; end = r.end };
      is_located = located_accepted file k at e c l ∙ places b r;
      is_read = r.itself;
    }
  where
    places : (b : Begun file k) (r : Reached file k.signals 0 b.after_signals c k.components d)
        → stretch_of c file 0 ≡ found (record { start = r.start; end = r.end }) r.end
    places b r = rw (b.many_is, b.signals_is, r.before, r.itself) refl

-- A file says what it writes, its empty sets filled (document 02, 2/14): the same faults at the same places, and where a table's set is empty the
-- state itself follows.
use mathlib.Core.Path.{◌≡◌, ◌∙◌, ap, refl, sym}
use mathlib.Core.List.{List, [], ◌∷◌, map}
use Prim.Native.Nat.{ℕ, zero, suc, ◌-◌, ◌*◌, ◌^◌}
use Rattle.meaning.specs.File.Grammar.{Component, Contents, Limits, as_written, between, component, components, driven_by, filled, filled_contents}
use Rattle.meaning.specs.File.Grammar.{finished, limits, nodes, raw, read_file, signals, start, whole, with_all}
use Rattle.meaning.specs.File.Parser.{Got, Parser, ◌>>=◌, ◌>>◌, fault, found, give, list_of, on, repeat}
use Rattle.meaning.proofs.File.Lists.{list_more, list_none, on_assoc}

-- what was found, made into something else at the same place
abbrev pub made_of : {A B : Type 0} → (A → B) → Got A → Got B
made_of f g = on g (λ a at. found (f a) at)

-- what is made at the end of a parser can be made after it
then_made : {A B C : Type 0} (f : B → C) (g : Got A) (k : A → ℕ → Got B) (m : A → ℕ → Got C) → ((a : A) (n : ℕ) → m a n ≡ made_of f (k a n))
    → on g m ≡ made_of f (on g k)
then_made f (found a n) k m e = e a n
then_made f (fault r) k m e = refl

record Makes {A B : Type 0} (f : A → B) (p : Parser A) (q : Parser B) : Type 0 where
  made : (file : List ℕ) (at : ℕ) → q file at ≡ made_of f (p file at)

makes_bind : {A B C : Type 0} {f : B → C} (p : Parser A) {k : A → Parser B} {m : A → Parser C} → ((a : A) → Makes f (k a) (m a))
    → Makes f (◌>>=◌ p k) (◌>>=◌ p m)
makes_bind {f = f} p {k = k} {m = m} h =
    record { made = λ file at. then_made f (p file at) (λ a n. k a file n) (λ a n. m a file n) (λ a n. (h a).made file n) }

makes_give : {A B : Type 0} {f : A → B} (a : A) → Makes f (give a) (give (f a))
makes_give a = record { made = λ file at. refl }

-- items of a list, where what is made of one leads to what it leads to itself
makes_list : {A B S : Type 0} {f : A → B} (item : S → Parser A) (item' : S → Parser B) (next : S → A → S) (next' : S → B → S)
    → ((s : S) → Makes f (item s) (item' s)) → ((s : S) (a : A) → next' s (f a) ≡ next s a)
    → (k : ℕ) (s : S) → Makes (map f) (list_of item next k s) (list_of item' next' k s)
makes_list {f = f} item item' next next' h q zero s =
    record { made = λ file at. list_none item' next' file s at ∙ sym (ap (made_of (map f)) (list_none item next file s at)) }
makes_list {f = f} item item' next next' h q (suc k) s =
    record {
      made =
          λ file at. list_more item' next' file k s at
          ∙ ap (λ g. on g (λ b n. on (list_of item' next' k (next' s b) file n) (λ rest e. found (b ∷ rest) e))) ((h s).made file at)
          ∙ on_assoc (item s file at) _ _
          ∙ then_made (map f) (item s file at) _ _ (λ a n.
          ap (λ t. on (list_of item' next' k t file n) (λ rest e. found (f a ∷ rest) e)) (q s a)
          ∙ ap (λ g. on g (λ rest e. found (f a ∷ rest) e)) ((makes_list item item' next next' h q k (next s a)).made file n)
          ∙ on_assoc (list_of item next k (next s a) file n) _ _
          ∙ sym (on_assoc (list_of item next k (next s a) file n) _ _))
          ∙ sym (ap (made_of (map f)) (list_more item next file k s at));
    }

module _ (L : Limits) where
  component_made : (make : Component → Component) (W driven : ℕ) → Makes make (component L as_written W driven) (component L make W driven)
  unfolding component
  component_made make W driven =
      makes_bind (between L 1 L.states 3) (λ s.
      makes_bind (between L 0 L.inputs 3) (λ i.
      makes_bind (signals L W 0 i) (λ inputs.
      makes_bind (between L 0 L.outputs 3) (λ o.
      makes_bind (signals L W (with_all driven inputs) o) (λ outputs.
      makes_bind (repeat (between L 0 (2 ^ o - 1) 6) s) (λ outs.
      makes_bind (repeat (between L 0 (2 ^ s - 1) 6) (s * 2 ^ i)) (λ nexts.
      makes_give {f = make} (record { states = s; inputs = inputs; outputs = outputs; outs = outs; nexts = nexts }))))))))

  -- filling changes no output, so what follows is read as it was
  tables_made : (W n : ℕ) → Makes (map filled) (components L as_written W n) (components L filled W n)
  tables_made W n =
      makes_list (component L as_written W) (component L filled W) (λ driven c. with_all driven c.outputs) (λ driven c. with_all driven c.outputs)
      (component_made filled W) (λ driven c. refl) n 0

driven_filled : (set : ℕ) (cs : List Component) → driven_by set (map filled cs) ≡ driven_by set cs
driven_filled set [] = refl
driven_filled set (c ∷ cs) = driven_filled (with_all set c.outputs) cs

sizes_filled : (cs : List Component) → map (λ (c : Component). c.states) (map filled cs) ≡ map (λ (c : Component). c.states) cs
sizes_filled [] = refl
sizes_filled (c ∷ cs) = ap (λ l. c.states ∷ l) (sizes_filled cs)

module _ (L : Limits) where
  -- the file after its components, where the signals driven and the state counts are known
  after_tables : ℕ → ℕ → List ℕ → List Component → Parser Contents
  after_tables W driven sizes cs = do
    k ← between L 1 L.nodes 3
    ns ← nodes L W driven k
    m ← between L 0 L.starts 3
    ss ← repeat (start L sizes) m
    finished L
    give (record { signals = W; components = cs; nodes = ns; starts = ss; sets = [] })

  rest_made : (W driven : ℕ) (sizes : List ℕ) (cs : List Component)
      → Makes filled_contents (after_tables W driven sizes cs) (after_tables W driven sizes (map filled cs))
  unfolding after_tables
  rest_made W driven sizes cs =
      makes_bind (between L 1 L.nodes 3) (λ k.
      makes_bind (nodes L W driven k) (λ ns.
      makes_bind (between L 0 L.starts 3) (λ m.
      makes_bind (repeat (start L sizes) m) (λ ss.
      makes_bind (finished L) (λ z.
      makes_give {f = filled_contents} (record { signals = W; components = cs; nodes = ns; starts = ss; sets = [] }))))))

  abbrev rest : ℕ → List Component → Parser Contents
  rest W cs = after_tables W (driven_by 0 cs) (map (λ c. c.states) cs) cs

  rest_filled : (W : ℕ) (cs : List Component) (file : List ℕ) (at : ℕ) → rest W (map filled cs) file at ≡ made_of filled_contents (rest W cs file at)
  rest_filled W cs file at =
      ap (λ d. after_tables W d (map (λ c. c.states) (map filled cs)) (map filled cs) file at) (driven_filled 0 cs)
      ∙ ap (λ l. after_tables W (driven_by 0 cs) l (map filled cs) file at) (sizes_filled cs)
      ∙ (rest_made W (driven_by 0 cs) (map (λ c. c.states) cs) cs).made file at

  components_made : (W n : ℕ) → Makes filled_contents (λ file at. on (components L as_written W n file at) (λ cs r. rest W cs file r))
      (λ file at. on (components L filled W n file at) (λ cs r. rest W cs file r))
  components_made W n =
      record {
        made =
            λ file at. ap (λ g. on g (λ cs r. rest W cs file r)) ((tables_made L W n).made file at)
            ∙ on_assoc (components L as_written W n file at) _ _
            ∙ then_made filled_contents (components L as_written W n file at) _ _ (λ cs r. rest_filled W cs file r);
      }

  -- under any limits
  whole_made : Makes filled_contents (whole L as_written) (whole L filled)
  unfolding whole after_tables
  whole_made = makes_bind (between L 1 L.components 3) (λ n. makes_bind (between L 0 L.signals 3) (λ W. components_made W n))

  pub whole_filled : (file : List ℕ) (at : ℕ) → whole L filled file at ≡ made_of filled_contents (whole L as_written file at)
  whole_filled file at = whole_made.made file at

-- REQUEST 2/14: a file says what it writes, its empty sets filled
pub read_filled : (file : List ℕ) → read_file file ≡ made_of filled_contents (raw file)
read_filled file = whole_filled limits file 0

-- A spelled-out stay and the empty set (specs/File/Spelling; document 02, 2/14): what follows on a state, and that files which write the same but for
-- them are read as the same.
use mathlib.Core.Path.{◌≡◌, ◌∙◌, ap, refl, subst, sym}
use mathlib.Core.Logic.{◌↔◌, ◌⊎◌, inl, inr}
use mathlib.Core.List.{List, [], ◌∷◌, map}
use lib.Dec.{T}
use lib.ListN.{get_or-map, get_or, length, length-map}
use lib.Pow.{pow_pos}
use native.Mathlib.Nat.{add-mul-div_left, div-eq_of_lt, mul-le-mul_right}
use native.Mathlib.Omega.{arith}
use Prim.Native.Nat.{ℕ, zero, suc, ◌+◌, ◌*◌, ◌/◌, ◌^◌, ◌<◌, ◌≤◌}
use Rattle.words.specs.Sets.{has, insert}
use Rattle.words.proofs.Members.{has_none, insert_iff, insert_top}
use Rattle.meaning.specs.Table.{Table}
use Rattle.meaning.specs.Instrument.{table}
use Rattle.meaning.specs.File.Grammar.{Component, Contents, filled, filled_contents, filled_from, filled_set, instrument_of, limits, raw, read_file, table_of}
use Rattle.meaning.specs.File.Parser.{Got, fault, found}
use Rattle.meaning.specs.File.Promise.{component_at, no_component}
use Rattle.meaning.specs.File.Spelling.{Follows, SameButStays, SameComponent, SameComponents, SameContents, SameSet, SameSets, SameWritten, written_set}
use Rattle.meaning.proofs.File.Accepted.{promised_at, table_is}
use Rattle.meaning.proofs.File.Components.{filled_length}
use Rattle.meaning.proofs.File.Filled.{made_of, read_filled}
use Rattle.meaning.proofs.File.Reads.{file_promised}

-- ---- what follows on a state
-- the state alone
has_alone : (x y : ℕ) → T (has (2 ^ x) y) ↔ (x ≡ y)
has_alone x y =
    let e : insert 0 x ≡ 2 ^ x = omega (arith, insert_top x 0 (pow_pos x)) in
    let h = insert_iff 0 x y in
    (λ t. only (h.0 (subst (λ w. T (has w y)) (sym e) t)), λ q. subst (λ w. T (has w y)) e (h.1 (inr q)))
  where
    only : T (has 0 y) ⊎ (x ≡ y) → x ≡ y
    only (inl t) = absurd (subst T (has_none y) t)
    only (inr q) = q

has_filled : (x v y : ℕ) → T (has (filled_set x v) y) ↔ (T (has v y) ⊎ ((v ≡ 0) × (y ≡ x)))
has_filled x zero y = (λ t. inr (refl, sym ((has_alone x y).0 t)), go)
  where
    go : T (has 0 y) ⊎ ((◌≡◌ {A = ℕ} 0 0) × (y ≡ x)) → T (has (2 ^ x) y)
    go (inl t) = absurd (subst T (has_none y) t)
    go (inr q) = (has_alone x y).1 (sym q.1)
has_filled x (suc v) y = (λ t. inl t, go)
  where
    go : T (has (suc v) y) ⊎ ((suc v ≡ 0) × (y ≡ x)) → T (has (suc v) y)
    go (inl t) = t
    go (inr q) = absurd (omega (arith, q.0))

filled_at : (i p : ℕ) (vs : List ℕ) (j : ℕ) → j < length vs → get_or (filled_from i p vs) j 0 ≡ filled_set ((p + j) / 2 ^ i) (get_or vs j 0)
filled_at i p [] j l = absurd (omega arith)
filled_at i p (v ∷ vs) zero l = let e : p ≡ p + 0 = omega arith in ap (λ q. filled_set (q / 2 ^ i) v) e
filled_at i p (v ∷ vs) (suc j) l =
    let e : suc p + j ≡ p + suc j = omega arith in filled_at i (suc p) vs j (omega arith) ∙ ap (λ q. filled_set (q / 2 ^ i) (get_or vs j 0)) e

-- the set at the place of state x and an assignment a is one of state x
place_state : (i x a : ℕ) → a < 2 ^ i → (0 + (2 ^ i * x + a)) / 2 ^ i ≡ x
place_state i x a l =
    let e : 0 + (2 ^ i * x + a) ≡ a + 2 ^ i * x = omega arith in
    ap (λ n. n / 2 ^ i) e ∙ add-mul-div_left a x (pow_pos i) ∙ omega (arith, div-eq_of_lt l)

component_follows : (c : Component) (x a y : ℕ) → 2 ^ length c.inputs * x + a < length c.nexts → a < 2 ^ length c.inputs
    → T ((table_of (filled c)).next x a y) ↔ Follows c x a y
component_follows c x a y l k =
    subst (λ w. T (has w y) ↔ Follows c x a y)
    (sym (filled_at (length c.inputs) 0 c.nexts (2 ^ length c.inputs * x + a) l
    ∙ ap (λ z. filled_set z (written_set c x a)) (place_state (length c.inputs) x a k)))
    (has_filled x (written_set c x a) y)

-- REQUEST 2/14: a file that writes these contents is good, and on a state of its tables follow the states of the written set, or the state itself
-- where that is empty
module _ (file : List ℕ) (c : Contents) (e : ℕ) (q : raw file ≡ found c e) where
  pub says_filled : read_file file ≡ found (filled_contents c) e
  says_filled = read_filled file ∙ ap (made_of filled_contents) q

  pub follows : (i : ℕ) → i < length c.components → (x a y : ℕ) → x < (component_at c i).states → a < 2 ^ length (component_at c i).inputs
      → T ((table (instrument_of (filled_contents c)) i).next x a y) ↔ Follows (component_at c i) x a y
  follows i l x a y lx la =
      let d = component_at c i in
      let t : component_at (filled_contents c) i ≡ filled d = get_or-map filled c.components i no_component in
      let n : i < length (filled_contents c).components = omega (arith, length-map c.components filled) in
      let p = promised_at limits (filled_contents c) (file_promised file (filled_contents c) e says_filled) i n in
      let k : length (filled d).nexts ≡ d.states * 2 ^ length d.inputs = subst (λ (d : Component). length d.nexts ≡ d.states * 2 ^ length d.inputs) t p.next_count in
      let m : suc x * 2 ^ length d.inputs ≤ d.states * 2 ^ length d.inputs = mul-le-mul_right (2 ^ length d.inputs) lx in
      subst (λ (s : Table). T (s.next x a y) ↔ Follows d x a y) (sym (table_is (filled_contents c) i ∙ ap table_of t))
      (component_follows d x a y (omega (arith, k, m, filled_length (length d.inputs) 0 d.nexts)) la)

-- ---- files that write the same but for spelled-out stays
full_set : (x v : ℕ) → 0 < v → filled_set x v ≡ v
full_set x zero l = absurd (omega arith)
full_set x (suc v) l = refl

-- a spelled-out stay is filled like the empty set
pub stay_filled : (x : ℕ) → filled_set x (2 ^ x) ≡ filled_set x 0
stay_filled x = full_set x (2 ^ x) (pow_pos x)

set_same : (x u v : ℕ) → SameSet x u v → filled_set x u ≡ filled_set x v
set_same x u v (inl e) = ap (filled_set x) e
set_same x u v (inr (inl h)) = ap (filled_set x) h.0 ∙ sym (stay_filled x) ∙ sym (ap (filled_set x) h.1)
set_same x u v (inr (inr h)) = ap (filled_set x) h.0 ∙ stay_filled x ∙ sym (ap (filled_set x) h.1)

same_set : (x u v : ℕ) → filled_set x u ≡ filled_set x v → SameSet x u v
same_set x zero zero e = inl refl
same_set x zero (suc v) e = inr (inl (refl, sym e))
same_set x (suc u) zero e = inr (inr (e, refl))
same_set x (suc u) (suc v) e = inl e

sets_same : (i p : ℕ) (us vs : List ℕ) → SameSets i p us vs → filled_from i p us ≡ filled_from i p vs
sets_same i p [] [] h = refl
sets_same i p [] (v ∷ vs) h = absurd h
sets_same i p (u ∷ us) [] h = absurd h
sets_same i p (u ∷ us) (v ∷ vs) h = λ j. set_same (p / 2 ^ i) u v h.0 j ∷ sets_same i (suc p) us vs h.1 j

same_sets : (i p : ℕ) (us vs : List ℕ) → filled_from i p us ≡ filled_from i p vs → SameSets i p us vs
same_sets i p [] [] e = tt
same_sets i p [] (v ∷ vs) e = let z : ◌≡◌ {A = ℕ} 0 1 = cc in absurd (omega arith)
same_sets i p (u ∷ us) [] e = let z : ◌≡◌ {A = ℕ} 0 1 = cc in absurd (omega arith)
same_sets i p (u ∷ us) (v ∷ vs) e = (same_set (p / 2 ^ i) u v cc, same_sets i (suc p) us vs cc)

component_same : (c d : Component) → SameComponent c d → filled c ≡ filled d
component_same c d h =
    let e : filled_from (length c.inputs) 0 c.nexts ≡ filled_from (length d.inputs) 0 d.nexts =
    sets_same (length c.inputs) 0 c.nexts d.nexts h.nexts ∙ ap (λ l. filled_from (length l) 0 d.nexts) h.inputs in
    λ j. record { states = h.states j; inputs = h.inputs j; outputs = h.outputs j; outs = h.outs j; nexts = e j }

same_component : (c d : Component) → filled c ≡ filled d → SameComponent c d
same_component c d e =
    let i : c.inputs ≡ d.inputs = ap (λ (c : Component). c.inputs) e in
    record {
      states = ap (λ (c : Component). c.states) e;
      inputs = i;
      outputs = ap (λ (c : Component). c.outputs) e;
      outs = ap (λ (c : Component). c.outs) e;
      nexts =
          same_sets (length c.inputs) 0 c.nexts d.nexts
          (ap (λ (c : Component). c.nexts) e ∙ sym (ap (λ l. filled_from (length l) 0 d.nexts) i));
    }

components_same : (cs ds : List Component) → SameComponents cs ds → map filled cs ≡ map filled ds
components_same [] [] h = refl
components_same [] (d ∷ ds) h = absurd h
components_same (c ∷ cs) [] h = absurd h
components_same (c ∷ cs) (d ∷ ds) h = λ j. component_same c d h.0 j ∷ components_same cs ds h.1 j

same_components : (cs ds : List Component) → map filled cs ≡ map filled ds → SameComponents cs ds
same_components [] [] e = tt
same_components [] (d ∷ ds) e = let z : ◌≡◌ {A = ℕ} 0 1 = cc in absurd (omega arith)
same_components (c ∷ cs) [] e = let z : ◌≡◌ {A = ℕ} 0 1 = cc in absurd (omega arith)
same_components (c ∷ cs) (d ∷ ds) e = (same_component c d cc, same_components cs ds cc)

-- contents are the same but for spelled-out stays exactly if they are the same once they are filled
pub same_filled : (c d : Contents) → SameContents c d ↔ (filled_contents c ≡ filled_contents d)
same_filled c d = (to, from)
  where
    to : SameContents c d → filled_contents c ≡ filled_contents d
    to h =
        let e : map filled c.components ≡ map filled d.components = components_same c.components d.components h.components in
        λ j. record { signals = h.signals j; components = e j; nodes = h.nodes j; starts = h.starts j; sets = h.sets j }

    from : filled_contents c ≡ filled_contents d → SameContents c d
    from e =
        record {
          signals = ap (λ (c : Contents). c.signals) e;
          components = same_components c.components d.components (ap (λ (c : Contents). c.components) e);
          nodes = ap (λ (c : Contents). c.nodes) e;
          starts = ap (λ (c : Contents). c.starts) e;
          sets = ap (λ (c : Contents). c.sets) e;
        }

-- REQUEST 2/14: whatever is made of what the files say, and not of the place where they end, is the same
module _ (f g : List ℕ) (same : SameButStays f g) where
  pub same_said : {X : Type 0} (k : Got Contents → X) → ((c : Contents) (e h : ℕ) → k (found c e) ≡ k (found c h)) → k (read_file f) ≡ k (read_file g)
  same_said {X = X} k ends = ap k (read_filled f) ∙ go (raw f) (raw g) same ∙ sym (ap k (read_filled g))
    where
      go : (p q : Got Contents) → SameWritten p q → k (made_of filled_contents p) ≡ k (made_of filled_contents q)
      go (found c e) (found d h) s = ends (filled_contents c) e h ∙ ap (λ c. k (found c h)) ((same_filled c d).0 s)
      go (found c e) (fault q) s = absurd s
      go (fault r) (found d h) s = absurd s
      go (fault r) (fault q) s = ap (λ (r : ℕ). k (fault r)) s

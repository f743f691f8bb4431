-- A loop that reads a list, as a record of how far it is, and what each way through a turn makes of it.
use mathlib.Core.Path.{◌∙◌, ◌≡◌, ap, refl, sym}
use mathlib.Core.List.{List, [], ◌++◌, ◌∷◌, append_assoc, append-nil}
use lib.ListN.{length, length-append, set}
use lib.Seq.{sets}
use native.Mathlib.Omega.{arith}
use Prim.Native.Nat.{◌+◌, ◌-◌, ◌<◌, suc, zero, ℕ}
use Rattle.meaning.specs.File.Parser.{Got, Parser, fault, found, list_of, on}
use Rattle.meaning.proofs.Basic.Entries.{sets_append}
use Rattle.meaning.proofs.File.Lists.{list_items, list_more, list_none}

-- one store more
pub sets_more : {A : Type 0} (l : List A) (base : ℕ) (vs : List A) (v : A)
    → set (sets l base vs) (base + length vs) v ≡ sets l base (vs ++ (v ∷ []))
sets_more l base vs v = sym (sets_append vs (v ∷ []) l base)

-- what was read in all, if these items were read before
abbrev after : {A : Type 0} → List A → Got (List A) → Got (List A)
after seen g = on g (λ rest e. found (seen ++ rest) e)

after_nil : {A : Type 0} (g : Got (List A)) → after [] g ≡ g
after_nil (found vs e) = refl
after_nil (fault r) = refl

after_more : {A : Type 0} (seen : List A) (a : A) (g : Got (List A))
    → after seen (on g (λ rest e. found (a ∷ rest) e)) ≡ after (seen ++ (a ∷ [])) g
after_more seen a (found vs e) = ap (λ l. found l e) (sym (append_assoc seen (a ∷ []) vs))
after_more seen a (fault r) = refl

module _ {A S : Type 0} (item : S → Parser A) (next : S → A → S) (file : List ℕ) where
  -- of `count` items from the state s₀ and the place `at`, i are read and are Held; the others follow from the state s at `place`
  pub record Progress (count : ℕ) (s₀ : S) (at : ℕ) (Held : List A → Type 0) (i : ℕ) (s : S) (place : ℕ) : Type 0 where
    pub seen : List A
    pub long : length seen ≡ i
    pub held : Held seen
    pub rest : list_of item next count s₀ file at ≡ after seen (list_of item next (count - i) s file place)

  step : (k : ℕ) (s : S) (place : ℕ) (g : Got A) → 0 < k → item s file place ≡ g →
      list_of item next k s file place ≡ on g (λ a n. on (list_of item next (k - 1) (next s a) file n) (λ rest e. found (a ∷ rest) e))
  step zero s place g p e = absurd (omega arith)
  step (suc k) s place g p e =
      let m : suc k - 1 ≡ k = omega arith in
      rw (list_more item next file k s place, m, e)

  module _ (count : ℕ) (s₀ : S) (at : ℕ) (Held : List A → Type 0) where
    pub begin : Held [] → Progress count s₀ at Held 0 s₀ at
    begin h =
        let e : count - 0 ≡ count = omega arith in
        record { seen = []; long = refl; held = h; rest = rw e (sym (after_nil (list_of item next count s₀ file at))) }

    module _ (i : ℕ) (s : S) (place : ℕ) (p : Progress count s₀ at Held i s place) where
      -- the item is refused: so is the list
      pub stop : i < count → (r : ℕ) → item s file place ≡ fault r → list_of item next count s₀ file at ≡ fault r
      stop h r e = p.rest ∙ ap (after p.seen) (step (count - i) s place (fault r) (omega arith) e)

      -- the item is read
      pub more : (Held' : List A → Type 0) → i < count → (a : A) (n : ℕ) → item s file place ≡ found a n →
          ((l : List A) → length l ≡ i → Held l → Held' (l ++ (a ∷ []))) →
          Progress count s₀ at Held' (i + 1) (next s a) n
      more Held' h a n e f =
          let m : count - i - 1 ≡ count - (i + 1) = omega arith in
          let q : list_of item next (count - i) s file place
          ≡ on (list_of item next (count - (i + 1)) (next s a) file n) (λ rest e. found (a ∷ rest) e) =
          step (count - i) s place (found a n) (omega arith) e ∙ (rw m refl) in
          record {
            seen = p.seen ++ (a ∷ []);
            long = simp length-append (omega (arith, p.long));
            held = f p.seen p.long p.held;
            rest = p.rest ∙ ap (after p.seen) q ∙ after_more p.seen a (list_of item next (count - (i + 1)) (next s a) file n);
          }

      -- all are read
      pub end : i ≡ count → list_of item next count s₀ file at ≡ found p.seen place
      end h =
          let z : count - i ≡ 0 = omega arith in
          let q : list_of item next (count - i) s file place ≡ found [] place = rw z (list_none item next file s place) in
          p.rest ∙ ap (after p.seen) q ∙ ap (λ l. found l place) (append-nil p.seen)

  -- a list that was read has as many items as were asked for
  pub length_list : (k : ℕ) (s : S) (at : ℕ) (vs : List A) (e : ℕ) → list_of item next k s file at ≡ found vs e → length vs ≡ k
  length_list k s at vs e q = (list_items item next file k s at vs e q).long

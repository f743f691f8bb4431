-- What is read before the first fault, and a loop that reads a list up to it (proofs/File/Progress of crate meaning).
use mathlib.Core.Path.{◌≡◌, refl, sym, ap, subst, ◌∙◌}
use mathlib.Core.List.{List, [], ◌∷◌, ◌++◌, append_assoc, append-nil}
use lib.ListN.{length}
use native.Mathlib.Omega.{arith}
use Prim.Native.Nat.{ℕ, zero, suc, ◌+◌, ◌-◌, ◌<◌, ◌≤◌}
use Rattle.meaning.specs.File.Parser.{Got, found, fault, Parser, on, list_of}
use Rattle.meaning.proofs.File.Progress.{Progress, begin, stop, more, end}
use Rattle.parsing.specs.Faults.{where_found, before_fault}
use Rattle.parsing.proofs.Parsers.{found_same, first_of}

-- where the whole is found, so is its first thing
pub where_whole : {A B C : Type 0} (none : C) (g : Got A) (f : A → ℕ → Got B) (w : A → ℕ → C) (b : B) (e : ℕ) (x : C) → on g f ≡ found b e
    → ((a : A) (n : ℕ) → g ≡ found a n → f a n ≡ found b e → w a n ≡ x) → where_found none g w ≡ x
where_whole none (found a n) f w b e x q h = h a n refl q
where_whole none (fault r) f w b e x q h = let z : ◌≡◌ {A = ℕ} 0 1 = cc in let y : ⊥ = omega arith in absurd y

module _ {A S : Type 0} (item : S → Parser A) (next : S → A → S) (file : List ℕ) where
  before_more : (k : ℕ) (s : S) (at : ℕ) (g : Got A) → 0 < k → item s file at ≡ g
      → before_fault item next k s file at ≡ where_found [] g (λ a n. a ∷ before_fault item next (k - 1) (next s a) file n)
  unfolding before_fault
  before_more zero s at g p e = absurd (omega arith)
  before_more (suc k) s at g p e =
      let m : suc k - 1 ≡ k = omega arith in
      rw (m, e)

  -- no more are read than were asked for
  pub before_few : (k : ℕ) (s : S) (at : ℕ) → length (before_fault item next k s file at) ≤ k
  unfolding before_fault
  before_few zero s at = omega arith
  before_few (suc k) s at = go (item s file at) (λ a n. before_few k (next s a) n)
    where
      go : (g : Got A) → ((a : A) (n : ℕ) → length (before_fault item next k (next s a) file n) ≤ k)
          → length (where_found [] g (λ a n. a ∷ before_fault item next k (next s a) file n)) ≤ suc k
      go (found a n) few = omega (arith, few a n)
      go (fault r) few = omega arith

  -- a list that was found has no fault
  pub before_whole : (k : ℕ) (s : S) (at : ℕ) (vs : List A) (e : ℕ) → list_of item next k s file at ≡ found vs e
      → before_fault item next k s file at ≡ vs
  unfolding list_of before_fault
  before_whole zero s at vs e q = let z : [] ≡ vs = cc in z
  before_whole (suc k) s at vs e q =
      let w = first_of (item s file at) _ vs e q in
      let v = first_of (list_of item next k (next s w.value) file w.place) _ vs e w.rest in
      ap (λ g. where_found [] g (λ a n. a ∷ before_fault item next k (next s a) file n)) w.is
      ∙ ap (λ l. w.value ∷ l) (before_whole k (next s w.value) w.place v.value v.place v.is)
      ∙ found_same v.rest

  module _ (count : ℕ) (s₀ : S) (at : ℕ) where
    -- of `count` items i are read, before any fault, and are Held; the others follow from the state s at `place` of the same file
    pub record Reading (Held : List A → Type 0) (i : ℕ) (s : S) (here : List ℕ) (place : ℕ) : Type 0 where
      pub same_file : here ≡ file
      pub progress :
          Progress item next file count s₀ at
          (λ l. Held l × (before_fault item next count s₀ file at ≡ l ++ before_fault item next (count - i) s file place)) i s place

    module _ (Held : List A → Type 0) where
      pub begins : Held [] → Reading Held 0 s₀ file at
      begins h =
          let e : count - 0 ≡ count = omega arith in
          record { same_file = refl; progress = begin item next file count s₀ at _ (h, rw e refl) }

      module _ (i : ℕ) (s : S) (here : List ℕ) (place : ℕ) (p : Reading Held i s here place) where
        -- what is read here is read in the file
        there : (g : Got A) → g ≡ item s here place → item s file place ≡ g
        there g e = sym (e ∙ ap (λ f. item s f place) p.same_file)

        -- the item is refused: so is the list, and those before it are held
        pub stops : i < count → (r : ℕ) → fault r ≡ item s here place → list_of item next count s₀ file at ≡ fault r
        stops h r e = stop item next file count s₀ at _ i s place p.progress h r (there (fault r) e)

        pub stops_held : i < count → (r : ℕ) → fault r ≡ item s here place → Held (before_fault item next count s₀ file at)
        stops_held h r e =
            let l = p.progress in
            subst Held
            (sym (l.held.1 ∙ ap (λ m. l.seen ++ m) (before_more (count - i) s place (fault r) (omega arith) (there (fault r) e)) ∙ append-nil l.seen))
            l.held.0

        -- the item is read
        pub goes_on : (Held' : List A → Type 0) → i < count → (a : A) (after : List ℕ) (n : ℕ) → found a n ≡ item s here place → after ≡ here →
            ((l : List A) → length l ≡ i → Held l → Held' (l ++ (a ∷ []))) → Reading Held' (i + 1) (next s a) after n
        goes_on Held' h a after n e o f =
            let m : count - i - 1 ≡ count - (i + 1) = omega arith in
            let rest = before_fault item next (count - (i + 1)) (next s a) file n in
            let is = there (found a n) e in
            let b : before_fault item next (count - i) s file place ≡ a ∷ rest =
            before_more (count - i) s place (found a n) (omega arith) is ∙ ap (λ (k : ℕ). a ∷ before_fault item next k (next s a) file n) m in
            record {
              same_file = o ∙ p.same_file;
              progress =
                  more item next file count s₀ at _ i s place p.progress _ h a n is
                  (λ l q x. (f l q x.0, x.1 ∙ ap (λ r. l ++ r) b ∙ sym (append_assoc l (a ∷ []) rest)));
            }

        -- all are read
        pub ends : i ≡ count → list_of item next count s₀ file at ≡ found p.progress.seen place
        ends h = end item next file count s₀ at _ i s place p.progress h

        pub ends_held : i ≡ count → Held (before_fault item next count s₀ file at)
        ends_held h = subst Held (sym (before_whole count s₀ at p.progress.seen place (ends h))) p.progress.held.0

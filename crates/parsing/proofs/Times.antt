-- One thing more so many times, and a list of the grammar read so.
use mathlib.Core.Path.{◌≡◌, refl, sym, ap, ◌∙◌}
use mathlib.Core.List.{List, [], ◌∷◌, ◌++◌, append_assoc, append-nil}
use Prim.Native.Nat.{ℕ, zero, suc}
use Rattle.meaning.specs.Atoms.{Atom, Set}
use Rattle.meaning.specs.Nodes.{Node}
use Rattle.meaning.specs.File.Parser.{Got, found, fault, Parser, on, list_of}
use Rattle.meaning.specs.File.Grammar.{Component, Contents}
use Rattle.meaning.proofs.File.Lists.{on_assoc, list_none, list_more}
use Rattle.parsing.specs.Stages.{mapped, Stage, times}
use Rattle.parsing.proofs.Parsers.{on_each}

-- so many things more, and one
pub times_more : {A : Type 0} (file : List ℕ) (stage : A → Parser A) (n : ℕ) (k : A) (at : ℕ)
    → on (times n stage k file at) (λ m at. stage m file at) ≡ times (suc n) stage k file at
times_more {A = A} file stage zero k at = right (stage k file at)
  where
    right : (g : Got A) → g ≡ on g (λ k at. found k at)
    right (found k at) = refl
    right (fault r) = refl
times_more file stage (suc n) k at =
    on_assoc (stage k file at) (λ m at. times n stage m file at) (λ m at. stage m file at)
    ∙ on_each (stage k file at) (λ m at. on (times n stage m file at) (λ m at. stage m file at)) (λ m at. times (suc n) stage m file at)
    (λ m at e. times_more file stage n m at)

abbrev pub contents : List Set → ℕ → List Component → List (Node Atom) → List (List ℕ) → Contents
contents ds W cs ns ss = record { signals = W; components = cs; nodes = ns; starts = ss; sets = ds }

-- `all` has the contents with the things of a list, and a stage adds one thing to them.
module _
    {A S : Type 0} (file : List ℕ) (item : S → Parser A) (next : S → A → S) (state : List A → S) (all : List A → Contents) (stage : Stage)
    (is : (bs : List A) (at : ℕ) → stage (all bs) file at ≡ mapped (λ a. all (bs ++ (a ∷ []))) (item (state bs) file at))
    (moves : (bs : List A) (a : A) → state (bs ++ (a ∷ [])) ≡ next (state bs) a)
  where
    pub list_times : (n : ℕ) (bs : List A) (at : ℕ)
        → times n stage (all bs) file at ≡ mapped (λ ds. all (bs ++ ds)) (list_of item next n (state bs) file at)
    list_times zero bs at = rw (list_none item next file (state bs) at) (ap (λ l. found (all l) at) (sym (append-nil bs)))
    list_times (suc n) bs at = rw (is bs at, list_more item next file n (state bs) at) (go (item (state bs) file at) (list_times n))
      where
        rest : (a : A) (g : Got (List A))
            → mapped (λ ds. all (bs ++ (a ∷ []) ++ ds)) g ≡ mapped (λ ds. all (bs ++ ds)) (on g (λ ds e. found (a ∷ ds) e))
        rest a (found ds e) = ap (λ l. found (all l) e) (append_assoc bs (a ∷ []) ds)
        rest a (fault r) = refl

        go : (g : Got A)
            → ((bs : List A) (at : ℕ) → times n stage (all bs) file at ≡ mapped (λ ds. all (bs ++ ds)) (list_of item next n (state bs) file at))
            → on (mapped (λ a. all (bs ++ (a ∷ []))) g) (λ k at. times n stage k file at)
            ≡ mapped (λ ds. all (bs ++ ds)) (on g (λ a at. on (list_of item next n (next (state bs) a) file at) (λ ds e. found (a ∷ ds) e)))
        go (found a at) more =
            more (bs ++ (a ∷ [])) at
            ∙ ap (λ s. mapped (λ ds. all (bs ++ (a ∷ []) ++ ds)) (list_of item next n s file at)) (moves bs a)
            ∙ rest a (list_of item next n (next (state bs) a) file at)
        go (fault r) more = refl

-- What is read before the first fault.
use Rattle.std.specs.Prelude.{List, [], ◌∷◌, ℕ, zero, suc, ◌+◌}
use Rattle.meaning.specs.File.Parser.{Got, found, fault, Parser, done}
use Rattle.meaning.specs.File.Grammar.{limits, between, signal, start_state}

-- what becomes of a thing that was found and of the place after it; where there was a fault, `none`
abbrev pub where_found : {A B : Type 0} → B → Got A → (A → ℕ → B) → B
where_found none (found a at) f = f a at
where_found none (fault r) f = none

-- the items of a list of the grammar (`list_of`) that stand before the first fault; all of them where there is none
unfoldable pub before_fault : {A S : Type 0} → (S → Parser A) → (S → A → S) → ℕ → S → List ℕ → ℕ → List A
before_fault item next zero s file at = []
before_fault item next (suc k) s file at = where_found [] (item s file at) (λ a n. a ∷ before_fault item next k (next s a) file n)

-- so many items of one kind (`repeat`)
abbrev pub repeated_before : {A : Type 0} → Parser A → ℕ → List ℕ → ℕ → List A
repeated_before item count = before_fault (λ s. item) (λ s a. s) count done

-- signals of a list, words from lo to hi, and the states of a start
abbrev pub signals_before : ℕ → ℕ → ℕ → List ℕ → ℕ → List ℕ
signals_before W taken count = before_fault (signal limits W taken) (λ low v. v + 1) count 0

abbrev pub words_before : ℕ → ℕ → ℕ → List ℕ → ℕ → List ℕ
words_before lo hi count = repeated_before (between limits lo hi 6) count

abbrev pub start_before : List ℕ → ℕ → List ℕ → ℕ → List ℕ
start_before sizes n = before_fault (start_state limits sizes) (λ c v. c + 1) n 0

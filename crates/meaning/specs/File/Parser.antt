-- Reading a file from a place on: what was found, with the place after it, or the number of a refusal (document 01, The instrument file).
use Rattle.std.specs.Prelude.{Bool, true, false, List, [], ◌∷◌, ℕ, zero, suc}

pub data Got (A : Type 0) : Type 0 where
  found : A → ℕ → Got A
  fault : ℕ → Got A

-- from a file and a place
abbrev pub Parser : Type 0 → Type 0
Parser A = List ℕ → ℕ → Got A

-- the first fault decides: what follows is read only after something was found, from the place after it
abbrev pub on : {A B : Type 0} → Got A → (A → ℕ → Got B) → Got B
on (found a at) k = k a at
on (fault r) k = fault r

abbrev pub ◌>>=◌ : {A B : Type 0} → Parser A → (A → Parser B) → Parser B
◌>>=◌ p f = λ file at. on (p file at) (λ a next. f a file next)

abbrev pub ◌>>◌ : {A B : Type 0} → Parser A → Parser B → Parser B
◌>>◌ p q = λ file at. on (p file at) (λ a next. q file next)

abbrev pub give : {A : Type 0} → A → Parser A
give a = λ file at. found a at

-- go on if so, else refuse
pub data Done : Type 0 where
  done : Done

abbrev pub demand : Bool → ℕ → Parser Done
demand true r = λ file at. found done at
demand false r = λ file at. fault r

-- so many items, one after the other; what an item may be can depend on those before it
unfoldable pub list_of : {A S : Type 0} → (S → Parser A) → (S → A → S) → ℕ → S → Parser (List A)
list_of item next zero s = give []
list_of item next (suc k) s = do
  a ← item s
  rest ← list_of item next k (next s a)
  give (a ∷ rest)

-- so many items of one kind
abbrev pub repeat : {A : Type 0} → Parser A → ℕ → Parser (List A)
repeat item count = list_of (λ s. item) (λ s a. s) count done

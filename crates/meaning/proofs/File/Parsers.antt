-- What a parser promises of what it finds, how many bytes it reads at most, and that no byte after those has an influence: for parsers put
-- together as in specs/File/Parser.
use mathlib.Core.Path.{◌∙◌, ◌≡◌, ap, refl}
use mathlib.Core.Bool.{Bool, false, true}
use mathlib.Core.List.{List, [], ◌∷◌}
use lib.Dec.{T}
use lib.ListN.{take}
use native.Mathlib.Nat.{mul-le-mul_right}
use native.Mathlib.Omega.{arith}
use Prim.Native.Nat.{◌*◌, ◌+◌, ◌≤◌, suc, zero, ℕ}
use Rattle.meaning.specs.File.Parser.{Parser, ◌>>=◌, ◌>>◌, demand, found, give, list_of, on}
use Rattle.meaning.proofs.File.Lists.{Says, Sequence, found_says, on_same, on_says, says_map}

pub record Reads {A : Type 0} (p : Parser A) (b : ℕ) (Q : A → Type 0) : Type 0 where
  -- what is found is Q, and the place moves on by at most b
  pub says : (file : List ℕ) (at : ℕ) → Says (λ a e. Q a × (e ≤ at + b)) (p file at)
  -- no byte from the place at + b on has an influence
  pub same : (k : ℕ) (file : List ℕ) (at : ℕ) → at + b ≤ k → p (take k file) at ≡ p file at

pub reads_found : {A : Type 0} {p : Parser A} {b : ℕ} {Q : A → Type 0} → Reads p b Q → (file : List ℕ) (at : ℕ) (a : A) (e : ℕ)
    → p file at ≡ found a e → Q a × (e ≤ at + b)
reads_found {p = p} {b = b} {Q = Q} r file at a e q = found_says (λ a e. Q a × (e ≤ at + b)) (p file at) (r.says file at) a e q

-- what is promised can be less
pub weaker : {A : Type 0} {p : Parser A} {b c : ℕ} {P Q : A → Type 0} → b ≤ c → ((a : A) → P a → Q a) → Reads p b P → Reads p c Q
weaker {A} {p} {b} {c} {P} {Q} l f r =
    record {
      says =
          λ file at. says_map (λ a e. P a × (e ≤ at + b)) (λ a e. Q a × (e ≤ at + c)) (λ a e h. (f a h.0, omega (arith, h.1))) (p file at)
          (r.says file at);
      same = λ k file at h. r.same k file at (omega arith);
    }

pub reads_give : {A : Type 0} (Q : A → Type 0) (a : A) → Q a → Reads (give a) 0 Q
reads_give Q a q = record { says = λ file at. (q, omega arith); same = λ k file at h. refl }

pub reads_demand : (test : Bool) (r : ℕ) → Reads (demand test r) 0 (λ d. T test)
reads_demand true r = record { says = λ file at. (tt, omega arith); same = λ k file at h. refl }
reads_demand false r = record { says = λ file at. tt; same = λ k file at h. refl }

module _ {A B : Type 0} {p : Parser A} {f : A → Parser B} {b c : ℕ} {P : A → Type 0} {Q : B → Type 0} where
  pub reads_bind : Reads p b P → ((a : A) → P a → Reads (f a) c Q) → Reads (◌>>=◌ p f) (b + c) Q
  reads_bind r h =
      record {
        says =
            λ file at. on_says (λ a n. P a × (n ≤ at + b)) (λ a e. Q a × (e ≤ at + (b + c))) (p file at) (λ a n. f a file n) (r.says file at)
            (λ a n q. says_map (λ d e. Q d × (e ≤ n + c)) (λ d e. Q d × (e ≤ at + (b + c))) (λ d e z. (z.0, omega (arith, z.1, q.1)))
            (f a file n) ((h a q.0).says file n));
        same =
            λ k file at l. ap (λ g. on g (λ a n. f a (take k file) n)) (r.same k file at (omega arith))
            ∙ on_same (λ a n. P a × (n ≤ at + b)) (p file at) (λ a n. f a (take k file) n) (λ a n. f a file n) (r.says file at)
            (λ a n q. (h a q.0).same k file n (omega (arith, q.1)));
      }

pub reads_then : {A B : Type 0} {p : Parser A} {q : Parser B} {b c : ℕ} {P : A → Type 0} {Q : B → Type 0} → Reads p b P
    → ((a : A) → P a → Reads q c Q) → Reads (◌>>◌ p q) (b + c) Q
reads_then {q = q} r h = reads_bind {f = λ a. q} r h

-- the items of a list
module _ {A S : Type 0} (item : S → Parser A) (next : S → A → S) {b : ℕ} (P : S → A → Type 0) (r : (s : S) → Reads (item s) b (P s)) where
  list_of_lem : (k : ℕ) (s : S) → Reads (list_of item next k s) (k * b) (Sequence P next k s)
  unfolding list_of
  list_of_lem zero s = weaker (omega arith) (λ vs h. h) (reads_give (Sequence P next 0 s) [] (record { long = refl; items = tt }))
  list_of_lem (suc k) s =
      let e : b + (k * b + 0) ≤ suc k * b = omega arith in
      weaker e (λ vs h. h) (reads_bind (r s) (λ a p. reads_bind (list_of_lem k (next s a))
      (λ rest h. reads_give (Sequence P next (suc k) s) (a ∷ rest) (record { long = ap suc h.long; items = (p, h.items) }))))

  -- so many, and n at the most
  pub reads_list : (k n : ℕ) → k ≤ n → (s : S) → Reads (list_of item next k s) (n * b) (Sequence P next k s)
  reads_list k n l s = weaker (mul-le-mul_right b l) (λ vs h. h) (list_of_lem k s)

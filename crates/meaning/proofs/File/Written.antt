-- Bytes that a parser reads where they stand, put together as in specs/File/Parser: to show that a file made of such parts is good.
use mathlib.Core.Path.{◌∙◌, ◌≡◌, ap, refl, subst, sym}
use mathlib.Core.Bool.{Bool, ◌&&◌, not, true}
use mathlib.Core.List.{List, [], ◌++◌, ◌∷◌, append_assoc}
use lib.Dec.{T, leb, lt→ltb, ltb, ltb→lt}
use lib.ListN.{drop, length, length-append, replicate}
use native.Mathlib.Omega.{arith}
use Prim.Native.Nat.{◌%◌, ◌+◌, ◌-◌, ◌<◌, suc, zero, ℕ}
use Rattle.words.specs.Sets.{has}
use Rattle.meaning.specs.File.Grammar.{Limits, between, less_than, limits, named, number, signal}
use Rattle.meaning.specs.File.Number.{choose, groups, with_higher}
use Rattle.meaning.specs.File.Parser.{Parser, ◌>>=◌, demand, found, list_of, on}
use Rattle.meaning.proofs.Basic.Booleans.{conj, is_true}
use Rattle.meaning.proofs.File.Lists.{list_more, list_none}

-- wherever these bytes stand, the parser finds a in them, and the place after them
pub record Wrote {A : Type 0} (p : Parser A) (bs : List ℕ) (a : A) : Type 0 where
  pub reads : (before rest : List ℕ) → p (before ++ (bs ++ rest)) (length before) ≡ found a (length before + length bs)

-- so at the end of a file
pub record Ends {A : Type 0} (p : Parser A) (bs : List ℕ) (a : A) : Type 0 where
  pub reads : (before : List ℕ) → p (before ++ bs) (length before) ≡ found a (length before + length bs)

drop_before : (before rest : List ℕ) → drop (length before) (before ++ rest) ≡ rest
drop_before [] rest = refl
drop_before (b ∷ before) rest = drop_before before rest

module _ {A B : Type 0} (p : Parser A) (f : A → Parser B) (bs cs : List ℕ) (a : A) (b : B) (h : Wrote p bs a) where
  -- what is read after the first part
  after_first : (before more : List ℕ) → f a ((before ++ bs) ++ more) (length (before ++ bs)) ≡ found b (length (before ++ bs) + length cs)
      → (◌>>=◌ p f) (before ++ (bs ++ more)) (length before) ≡ found b (length before + length (bs ++ cs))
  after_first before more k =
      let l : length (before ++ bs) ≡ length before + length bs = length-append before bs in
      let m : length (bs ++ cs) ≡ length bs + length cs = length-append bs cs in
      let n : length before + length bs + length cs ≡ length before + length (bs ++ cs) = omega arith in
      ap (λ g. on g (λ a next. f a (before ++ (bs ++ more)) next)) (h.reads before more)
      ∙ subst (λ file. f a file (length before + length bs) ≡ found b (length before + length (bs ++ cs))) (append_assoc before bs more)
      (subst (λ at. f a ((before ++ bs) ++ more) at ≡ found b (length before + length (bs ++ cs))) l
      (k ∙ ap (λ e. found b e) (omega arith)))

pub wrote_bind : {A B : Type 0} {p : Parser A} (f : A → Parser B) {bs cs : List ℕ} {a : A} {b : B} → Wrote p bs a → Wrote (f a) cs b
    → Wrote (◌>>=◌ p f) (bs ++ cs) b
wrote_bind {p = p} f {bs = bs} {cs = cs} {a = a} {b = b} h k =
    record {
      reads =
          λ before rest. subst (λ x. (◌>>=◌ p f) (before ++ x) (length before) ≡ found b (length before + length (bs ++ cs)))
          (sym (append_assoc bs cs rest))
          (after_first p f bs cs a b h before (cs ++ rest) (k.reads (before ++ bs) rest));
    }

pub ends_bind : {A B : Type 0} {p : Parser A} (f : A → Parser B) {bs cs : List ℕ} {a : A} {b : B} → Wrote p bs a → Ends (f a) cs b
    → Ends (◌>>=◌ p f) (bs ++ cs) b
ends_bind {p = p} f {bs = bs} {cs = cs} {a = a} {b = b} h k =
    record { reads = λ before. after_first p f bs cs a b h before cs (k.reads (before ++ bs)) }

-- the last part of several, of which something is made
pub wrote_map : {A B : Type 0} {p : Parser A} (f : A → B) {bs : List ℕ} {a : A} → Wrote p bs a
    → Wrote (λ file at. on (p file at) (λ a n. found (f a) n)) bs (f a)
wrote_map f h = record { reads = λ before rest. ap (λ g. on g (λ a n. found (f a) n)) (h.reads before rest) }

-- a part that has to pass a test
pub wrote_tested : {A : Type 0} {p : Parser A} (test : A → Bool) (r : ℕ) {bs : List ℕ} {a : A} → test a ≡ true → Wrote p bs a
    → Wrote (λ file at. on (p file at) (λ a n. on (demand (test a) r file n) (λ d n. found a n))) bs a
wrote_tested test r {bs = bs} {a = a} e h =
    record {
      reads =
          λ before rest. ap (λ g. on g (λ a n. on (demand (test a) r (before ++ (bs ++ rest)) n) (λ d n. found a n))) (h.reads before rest)
          ∙ ap (λ t. on (demand t r (before ++ (bs ++ rest)) (length before + length bs)) (λ d n. found a n)) e;
    }

-- ---- lists
module _ {A S : Type 0} (item : S → Parser A) (next : S → A → S) where
  pub wrote_none : (s : S) → Wrote (list_of item next 0 s) [] []
  wrote_none s = record { reads = λ before rest. list_none item next (before ++ rest) s (length before) ∙ ap (λ e. found [] e) (omega arith) }

  pub wrote_more : (k : ℕ) (s : S) (bs cs : List ℕ) (a : A) (vs : List A) → Wrote (item s) bs a → Wrote (list_of item next k (next s a)) cs vs
      → Wrote (list_of item next (suc k) s) (bs ++ cs) (a ∷ vs)
  wrote_more k s bs cs a vs h i =
      let b : Wrote (λ file at. on (item s file at) (λ a n. on (list_of item next k (next s a) file n) (λ rest e. found (a ∷ rest) e)))
      (bs ++ cs) (a ∷ vs)
      = wrote_bind (λ a file n. on (list_of item next k (next s a) file n) (λ rest e. found (a ∷ rest) e)) h (wrote_map (λ rest. a ∷ rest) i) in
      record { reads = λ before rest. list_more item next (before ++ ((bs ++ cs) ++ rest)) k s (length before) ∙ b.reads before rest }

-- the same bytes so many times
abbrev pub copies : ℕ → List ℕ → List ℕ
copies zero bs = []
copies (suc k) bs = bs ++ copies k bs

-- items that are all the same, in every state that comes up
pub wrote_copies : {A S : Type 0} (item : S → Parser A) (next : S → A → S) (In : S → Type 0) (bs : List ℕ) (a : A)
    → ((s : S) → In s → Wrote (item s) bs a × In (next s a)) → (k : ℕ) (s : S) → In s → Wrote (list_of item next k s) (copies k bs) (replicate k a)
wrote_copies item next In bs a h zero s i = wrote_none item next s
wrote_copies item next In bs a h (suc k) s i =
    wrote_more item next k s bs (copies k bs) a (replicate k a) (h s i).0 (wrote_copies item next In bs a h k (next s a) (h s i).1)

-- ---- numbers
module _ (L : Limits) where
  pub wrote_number : (bs : List ℕ) (v : ℕ)
      → ((rest : List ℕ) (at : ℕ) → groups L.last_group L.groups_before (bs ++ rest) at ≡ found v (at + length bs))
      → Wrote (number L) bs v
  wrote_number bs v h =
      record {
        reads =
            λ before rest. ap (λ x. groups L.last_group L.groups_before x (length before)) (drop_before before (bs ++ rest))
            ∙ h rest (length before);
      }

  pub wrote_between : (lo hi r : ℕ) {bs : List ℕ} {v : ℕ} → (leb lo v && leb v hi) ≡ true → Wrote (number L) bs v → Wrote (between L lo hi r) bs v
  unfolding between
  wrote_between lo hi r e h = wrote_tested (λ v. leb lo v && leb v hi) r e h

  pub wrote_less : (bound r : ℕ) {bs : List ℕ} {v : ℕ} → ltb v bound ≡ true → Wrote (number L) bs v → Wrote (less_than L bound r) bs v
  unfolding less_than
  wrote_less bound r e h = wrote_tested (λ v. ltb v bound) r e h

  pub wrote_named : (W driven : ℕ) {bs : List ℕ} {v : ℕ} → (ltb v W && has driven v) ≡ true → Wrote (number L) bs v → Wrote (named L W driven) bs v
  unfolding named
  wrote_named W driven e h = wrote_tested (λ v. ltb v W && has driven v) 8 e h

  pub wrote_signal : (W taken low : ℕ) {bs : List ℕ} {v : ℕ} → (leb low v && ltb v W) ≡ true → not (has taken v) ≡ true → Wrote (number L) bs v
      → Wrote (signal L W taken low) bs v
  unfolding signal
  wrote_signal W taken low {bs} {v} e f h =
      record {
        reads =
            λ before rest. let file = before ++ (bs ++ rest) in
            ap (λ g. on g (λ v n. on (demand (leb low v && ltb v W) 4 file n) (λ d n. on (demand (not (has taken v)) 5 file n) (λ d n. found v n))))
            (h.reads before rest)
            ∙ ap (λ t. on (demand t 4 file (length before + length bs)) (λ d n. on (demand (not (has taken v)) 5 file n) (λ d n. found v n))) e
            ∙ ap (λ t. on (demand t 5 file (length before + length bs)) (λ d n. found v n)) f;
      }

-- a number of one byte, under document 01's limits
pub wrote_byte : (v : ℕ) → v < 128 → Wrote (number limits) (v ∷ []) v
unfolding groups
wrote_byte v l =
    wrote_number limits (v ∷ []) v (λ rest at.
    let e : suc at ≡ at + 1 = omega arith in
    ap (λ t. choose t (found v (suc at)) (with_higher (v % 128) (groups limits.last_group (limits.groups_before - 1) rest (suc at)))) (is_true (ltb v 128) (lt→ltb v 128 l))
    ∙ ap (λ n. found v n) e)

-- signals of one byte each, in order and free
module _ (W taken : ℕ) where
  abbrev pub listable : ℕ → List ℕ → Bool
  listable low [] = true
  listable low (v ∷ vs) = (leb low v && ltb v W) && (not (has taken v) && (ltb v 128 && listable (v + 1) vs))

  pub wrote_signals : (low : ℕ) (vs : List ℕ) → T (listable low vs)
      → Wrote (list_of (signal limits W taken) (λ low v. v + 1) (length vs) low) vs vs
  wrote_signals low [] h = wrote_none (signal limits W taken) (λ low v. v + 1) low
  wrote_signals low (v ∷ vs) h =
      wrote_more (signal limits W taken) (λ low v. v + 1) (length vs) low (v ∷ []) vs v vs
      (wrote_signal limits W taken low (is_true (leb low v && ltb v W) (search conj)) (is_true (not (has taken v)) (search conj))
      (wrote_byte v (ltb→lt v 128 (search conj)))) (wrote_signals (v + 1) vs (search conj))

-- Sets built from a test, complements and differences: laws over ℕ, for every width.
use mathlib.Core.Path.{◌∙◌, ◌≡◌, ap, ap₂, refl, subst, sym}
use mathlib.Core.Logic.{◌↔◌, ◌≢◌}
use mathlib.Core.Bool.{Bool, ◌&&◌, ◌||◌, cond, false, not, true}
use lib.Bits.{and_le_l, bit_and}
use lib.Dec.{T, T_not, eqb, lit<}
use lib.Pow.{pow_pos}
use native.Mathlib.Decide.{ℕ_discrete}
use native.Mathlib.Nat.{not-suc-le-zero}
use native.Mathlib.Numerals.{add-one}
use native.Mathlib.Omega.{arith}
use Prim.Native.Nat.{◌+◌, ◌-◌, ◌<◌, ◌^◌, ◌≤◌, suc, zero, ℕ}
use Rattle.words.proofs.Digits.{digit_above, digit_and, digit_lt, digit_not, digit_ones, digit_past, digit_top, double}
use Rattle.words.proofs.Members.{and_true, below_lt, has_below, has_insert, has_intersection, has_lt, has_none, has_one, has_union}
use Rattle.words.proofs.Members.{insert_others, insert_top, intersection_lt, not_has, one_has, same_members, some_member, union_lt}
use Rattle.words.specs.Sets.{below, built, complement, digit, empty, has, insert, intersection, union}

-- the set of the numbers below n that pass a test
pub built_lt : (n : ℕ) (f : ℕ → Bool) → built n f < 2 ^ n
unfolding built
built_lt zero f = lit< tt
built_lt (suc n) f = go (f n) (built_lt n f)
  where
    go : (b : Bool) → built n f < 2 ^ n → built n f + cond b (2 ^ n) 0 < 2 ^ suc n
    go true h = omega (arith, double n)
    go false h = omega (arith, double n)

pub has_built : (n : ℕ) (f : ℕ → Bool) (t : ℕ) → t < n → has (built n f) t ≡ f t
unfolding built
has_built zero f t l = absurd (not-suc-le-zero l)
has_built (suc n) f t l = go (f n) refl (ℕ_discrete t n) (built_lt n f) (has_built n f t)
  where
    go : (b : Bool) → f n ≡ b → Dec (t ≡ n) → built n f < 2 ^ n → (t < n → has (built n f) t ≡ f t)
        → has (built n f + cond b (2 ^ n) 0) t ≡ f t
    go true e (yes p) h ih =
        ap (λ d. eqb d 1) (subst (λ t. digit (built n f + 2 ^ n) t ≡ 1) (sym p) (digit_top n (built n f) h)) ∙ (sym e ∙ ap f (sym p))
    go false e (yes p) h ih =
        let z : built n f + 0 ≡ built n f = omega arith in
        rw z (not_has (built n f) t (digit_past n (built n f) t h (omega arith)) ∙ (sym e ∙ ap f (sym p)))
    go true e (no p) h ih = ap (λ d. eqb d 1) (digit_above n (built n f) t h (omega arith)) ∙ ih (omega arith)
    go false e (no p) h ih =
        let z : built n f + 0 ≡ built n f = omega arith in
        rw z (ih (omega arith))

pub has_built_lt : (n : ℕ) (f : ℕ → Bool) (t : ℕ) → T (has (built n f) t) → t < n
has_built_lt n f t h = has_lt n (built n f) t (built_lt n f) h

pub built_same : (n : ℕ) (f g : ℕ → Bool) → ((t : ℕ) → t < n → f t ≡ g t) → built n f ≡ built n g
unfolding built
built_same zero f g h = refl
built_same (suc n) f g h = ap₂ (λ r b. r + cond b (2 ^ n) 0) (built_same n f g (λ t l. h t (omega arith))) (h n (omega arith))

-- a word below 2 ^ n is the set of its members
pub built_has : (n w : ℕ) → w < 2 ^ n → built n (has w) ≡ w
built_has n w p = same_members n (built n (has w)) w (built_lt n (has w)) p (has_built n (has w))

pub has_complement : (s w t : ℕ) → t < s → has (complement s w) t ≡ not (has w t)
unfolding complement
has_complement s w t l = has_built s (λ t. not (has w t)) t l

pub complement_lt : (s w : ℕ) → complement s w < 2 ^ s
unfolding complement
complement_lt s w = built_lt s (λ t. not (has w t))

-- a set is built number by number
pub built_none : (f : ℕ → Bool) → built 0 f ≡ 0
unfolding built
built_none f = refl

-- operations on built sets
pub built_empty : (n : ℕ) → built n (λ t. false) ≡ 0
built_empty n =
    same_members n (built n (λ t. false)) 0 (built_lt n (λ t. false)) (pow_pos n) (λ t l. has_built n (λ t. false) t l ∙ sym (has_none t))

pub built_below : (n : ℕ) → built n (λ t. true) ≡ below n
built_below n =
    same_members n (built n (λ t. true)) (below n) (built_lt n (λ t. true)) (below_lt n)
    (λ t l. has_built n (λ t. true) t l ∙ sym (has_below n t l))

pub built_union : (n : ℕ) (f g : ℕ → Bool) → union (built n f) (built n g) ≡ built n (λ t. f t || g t)
built_union n f g =
    same_members n (union (built n f) (built n g)) (built n (λ t. f t || g t))
    (union_lt n (built n f) (built n g) (built_lt n f) (built_lt n g)) (built_lt n (λ t. f t || g t))
    (λ t l.
    has_union (built n f) (built n g) t
    ∙ (ap₂ (λ a b. a || b) (has_built n f t l) (has_built n g t l) ∙ sym (has_built n (λ t. f t || g t) t l)))

pub built_intersection : (n : ℕ) (f g : ℕ → Bool) → intersection (built n f) (built n g) ≡ built n (λ t. f t && g t)
built_intersection n f g =
    same_members n (intersection (built n f) (built n g)) (built n (λ t. f t && g t))
    (intersection_lt n (built n f) (built n g) (built_lt n f)) (built_lt n (λ t. f t && g t))
    (λ t l.
    has_intersection (built n f) (built n g) t
    ∙ (ap₂ (λ a b. a && b) (has_built n f t l) (has_built n g t l) ∙ sym (has_built n (λ t. f t && g t) t l)))

pub built_complement : (n : ℕ) (f : ℕ → Bool) → complement n (built n f) ≡ built n (λ t. not (f t))
unfolding complement
built_complement n f = built_same n (λ t. not (has (built n f) t)) (λ t. not (f t)) (λ t l. ap not (has_built n f t l))

-- one number more: it is put in if it passes the test
pub built_more : (n : ℕ) (f : ℕ → Bool) → built (n + 1) f ≡ cond (f n) (insert (built n f) n) (built n f)
unfolding built
built_more n f = rw (add-one n) (go (f n))
  where
    go : (b : Bool) → built n f + cond b (2 ^ n) 0 ≡ cond b (insert (built n f) n) (built n f)
    go true = sym (insert_top n (built n f) (built_lt n f))
    go false = omega arith

pub built_in : (n : ℕ) (f : ℕ → Bool) → f n ≡ true → insert (built n f) n ≡ built (n + 1) f
built_in n f e = sym (built_more n f ∙ ap (λ b. cond b (insert (built n f) n) (built n f)) e)

pub built_out : (n : ℕ) (f : ℕ → Bool) → f n ≡ false → built n f ≡ built (n + 1) f
built_out n f e = sym (built_more n f ∙ ap (λ b. cond b (insert (built n f) n) (built n f)) e)

-- a set cut below n
pub cut_built : (n w : ℕ) → intersection (below n) w ≡ built n (has w)
cut_built n w =
    same_members n (intersection (below n) w) (built n (has w)) (intersection_lt n (below n) w (below_lt n)) (built_lt n (has w)) (λ t l.
    has_intersection (below n) w t ∙ (ap (λ b. b && has w t) (has_below n t l) ∙ sym (has_built n (has w) t l)))

-- the complement is all ones of k digits less w, cut to s digits
flip_test : (d : ℕ) → d < 2 → eqb (1 - d) 1 ≡ not (eqb d 1)
flip_test zero p = refl
flip_test (suc zero) p = refl
flip_test (suc (suc d)) p = absurd (omega arith)

pub complement_is : (k s w : ℕ) → s ≤ k → w < 2 ^ k → bit_and (below s) ((2 ^ k - 1) - w) ≡ complement s w
unfolding below complement
complement_is k s w l p =
    same_members s (bit_and (2 ^ s - 1) ((2 ^ k - 1) - w)) (built s (λ t. not (has w t)))
    (omega (arith, and_le_l (2 ^ s - 1) ((2 ^ k - 1) - w), pow_pos s)) (built_lt s (λ t. not (has w t))) (λ t h.
    let e : digit (bit_and (2 ^ s - 1) ((2 ^ k - 1) - w)) t ≡ 1 - digit w t =
    digit_and (2 ^ s - 1) ((2 ^ k - 1) - w) t ∙ omega (arith, digit_ones s t h, digit_not k w t p (omega arith), digit_lt w t)
    in
    ap (λ d. eqb d 1) e ∙ (flip_test (digit w t) (digit_lt w t) ∙ sym (has_built s (λ t. not (has w t)) t h)))

-- the code's `!w` in words of k digits
pub complement_whole : (k w : ℕ) → w < 2 ^ k → (2 ^ k - 1) - w ≡ complement k w
complement_whole k w p =
    same_members k ((2 ^ k - 1) - w) (complement k w) (omega (arith, pow_pos k)) (complement_lt k w)
    (λ t l. ap (λ d. eqb d 1) (digit_not k w t p l) ∙ (flip_test (digit w t) (digit_lt w t) ∙ sym (has_complement k w t l)))

-- what is in a and not in b, of the first k numbers
minus_test : (x y : Bool) → T (x && not y) ↔ (T x × (T y → ⊥))
minus_test true true = (λ h. absurd h, λ h. h.1 tt)
minus_test true false = (λ h. (tt, λ z. z), λ h. tt)
minus_test false y = (λ h. absurd h, λ h. h.0)

module _ (k a b t : ℕ) (l : t < k) where
  difference_test : has (intersection a (complement k b)) t ≡ (has a t && not (has b t))
  difference_test = has_intersection a (complement k b) t ∙ ap (λ c. has a t && c) (has_complement k b t l)

  pub difference_iff : T (has (intersection a (complement k b)) t) ↔ (T (has a t) × (T (has b t) → ⊥))
  difference_iff =
      let m = minus_test (has a t) (has b t) in
      (λ h. m.0 (subst T difference_test h), λ h. subst T (sym difference_test) (m.1 h))

pub common_out : (k a b : ℕ) → a < 2 ^ k → T (not (empty (intersection a b))) → (t : ℕ) × (t < k) × T (has a t) × T (has b t)
unfolding intersection empty
common_out k a b p h =
    let (t, l, m) =
    some_member k (bit_and a b) (omega (arith, and_le_l a b)) (λ e. T_not (eqb (bit_and a b) 0) h (subst (λ w. T (eqb w 0)) (sym e) tt))
    in
    let d = digit_and a b t in
    let o = has_one (bit_and a b) t m in
    (t, l, one_has a t (omega (arith, digit_lt a t)), one_has b t (omega (arith, digit_lt b t)))

-- one member less, in words of k digits
module _ (k w t : ℕ) where
  abbrev rest : ℕ
  rest = intersection w (complement k (insert 0 t))

  pub less_out : (u : ℕ) → T (has rest u) → (t ≢ u) × T (has w u)
  less_out u h =
      let (p, q) = both (has w u) (has (complement k (insert 0 t)) u) (subst T (has_intersection w (complement k (insert 0 t)) u) h) in
      let l : u < k = has_lt k (complement k (insert 0 t)) u (complement_lt k (insert 0 t)) q in (
        λ e.
            T_not (has (insert 0 t) u) (subst T (has_complement k (insert 0 t) u l) q) (subst (λ u. T (has (insert 0 t) u)) e (has_insert 0 t)),
        p,
      )
    where
      both : (a b : Bool) → T (a && b) → T a × T b
      both true b h = (tt, h)
      both false b h = absurd h

  pub less_same : (u : ℕ) → u < k → t ≢ u → has rest u ≡ has w u
  less_same u l z =
      let e : has (complement k (insert 0 t)) u ≡ true = has_complement k (insert 0 t) u l ∙ ap not (insert_others 0 t u z ∙ has_none u) in
      has_intersection w (complement k (insert 0 t)) u ∙ (ap (λ b. has w u && b) e ∙ and_true (has w u))

  pub less_in : (u : ℕ) → u < k → t ≢ u → T (has w u) → T (has rest u)
  less_in u l z h = subst T (sym (less_same u l z)) h

  pub less_falls : T (has w t) → rest < w
  unfolding intersection
  less_falls h =
      elim (ℕ_discrete rest w) [
        | yes e ↦ absurd ((less_out t (subst (λ r. T (has r t)) (sym e) h)).0 refl)
        | no z ↦ omega (arith, and_le_l w (complement k (insert 0 t)))
      ]

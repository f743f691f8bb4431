-- Atoms are lawful: of one table, beside partners that drive none of its outputs, and in a well-formed instrument.
use mathlib.Core.Path.{◌∙◌, ◌≡◌, ap, refl, subst, sym}
use mathlib.Core.Logic.{◌↔◌, ◌≢◌}
use mathlib.Core.Bool.{beq, ◌&&◌, not}
use lib.Dec.{T, T_not, eqb, eqb→eq}
use lib.ListN.{get_or, length}
use native.Mathlib.Decide.{ℕ_discrete}
use Prim.Native.Nat.{◌<◌, ℕ}
use Rattle.words.specs.Sets.{has, intersection}
use Rattle.meaning.specs.Atoms.{Atom, on_signal}
use Rattle.meaning.specs.Combination.{State}
use Rattle.meaning.specs.Instrument.{Accepted, Instrument, WellFormed, components, table}
use Rattle.meaning.specs.Seen.{read_outputs, seen, value, value_of, view_of}
use Rattle.meaning.specs.Table.{Table, Total, drives, owns}
use Rattle.meaning.specs.View.{View, atoms, comparing}
use Rattle.meaning.proofs.Basic.Booleans.{and_l, and_r, and_same, beq_eq, eq_beq, imp_in, imp_out, own_eq}
use Rattle.meaning.proofs.Basic.Equivalence.{Equivalence}
use Rattle.meaning.proofs.Basic.Bounded.{any_in, any_out, any_same}
use Rattle.meaning.proofs.File.Tables.{drives_owns}
use Rattle.meaning.proofs.Marks.Compared.{compared_means}
use Rattle.meaning.proofs.Marks.Laws.{Fits, Lawful, Local, Shows, Sound}

module _ (compared : ℕ → ℕ) (t : Table) where
  abbrev κ : View Atom
  κ = atoms compared t

  -- related for a signal: foreign, or driven to the same level
  pub rel_signal : (w x y : ℕ) → T (κ.related (on_signal w) x y) ↔ (T (owns t w) → drives t x w ≡ drives t y w)
  rel_signal w x y = (
    λ r o. beq_eq (drives t x w) (drives t y w) (imp_out (owns t w) (beq (drives t x w) (drives t y w)) r o),
    λ h. imp_in (owns t w) (beq (drives t x w) (drives t y w)) (λ o. eq_beq (drives t x w) (drives t y w) (h o)),
  )

  pub level_eq : (w x y : ℕ) → T (κ.related (on_signal w) x y) → drives t x w ≡ drives t y w
  level_eq w x y r = own_eq (owns t w) (drives t x w) (drives t y w) ((rel_signal w x y).0 r) (drives_owns t x w) (drives_owns t y w)

  eq_level : (w x y : ℕ) → drives t x w ≡ drives t y w → T (κ.related (on_signal w) x y)
  eq_level w x y e = (rel_signal w x y).1 (λ o. e)

  pub atoms_lawful : Total t → Lawful t κ
  atoms_lawful total = record { total = total; clash = clash; equivalence = equivalence; passes = passes; fails = fails }
    where
      clash : (a : Atom) (x : ℕ) → x < t.states → T (κ.pass a x) → T (κ.fail a x) → ⊥
      clash (on_signal w) x l p f = T_not (drives t x w) (and_r (owns t w) (not (drives t x w)) f) (and_r (owns t w) (drives t x w) p)

      equivalence : (a : Atom) → Equivalence t (λ x y. T (κ.related a x y))
      equivalence (on_signal w) =
          record {
            refl = λ x l. eq_level w x x refl;
            symm = λ x y l k r. eq_level w y x (sym (level_eq w x y r));
            trans = λ x y z l k m r s. eq_level w x z (level_eq w x y r ∙ level_eq w y z s);
          }

      passes : (a : Atom) (x y : ℕ) → x < t.states → y < t.states → T (κ.related a x y) → T (κ.pass a x) → T (κ.pass a y)
      passes (on_signal w) x y l k r p = subst (λ b. T (owns t w && b)) (level_eq w x y r) p

      fails : (a : Atom) (x y : ℕ) → x < t.states → y < t.states → T (κ.related a x y) → T (κ.fail a x) → T (κ.fail a y)
      fails (on_signal w) x y l k r p = subst (λ b. T (owns t w && not b)) (level_eq w x y r) p

module _ (n : ℕ) (S : ℕ → Table) where
  -- component k beside others that drive none of its outputs
  pub atoms_sound : (compared : ℕ → ℕ) (k : ℕ) → k < n → ((j : ℕ) → j < n → j ≢ k → (w : ℕ) → T (owns (S k) w) → T (owns (S j) w) → ⊥)
      → Sound n S (value n S) k (atoms compared (S k))
  atoms_sound compared k l apart = record { here = l; passes = passes; fails = fails }
    where
      passes : (a : Atom) (s : State n S) → T ((atoms compared (S k)).pass a (s.at k)) → T (value n S a s.at)
      passes (on_signal w) s p = any_in n (λ i. drives (S i) (s.at i) w) k l (and_r (owns (S k) w) (drives (S k) (s.at k) w) p)

      fails : (a : Atom) (s : State n S) → T ((atoms compared (S k)).fail a (s.at k)) → T (value n S a s.at) → ⊥
      fails (on_signal w) s p h =
          let (i, m, d) = any_out n (λ i. drives (S i) (s.at i) w) h in
          elim (ℕ_discrete i k) [
            | yes e ↦
                T_not (drives (S k) (s.at k) w) (and_r (owns (S k) w) (not (drives (S k) (s.at k) w)) p)
                (subst (λ i. T (drives (S i) (s.at i) w)) e d)
            | no z ↦ apart i m z w (and_l (owns (S k) w) (not (drives (S k) (s.at k) w)) p) (drives_owns (S i) (s.at i) w d)
          ]

  pub value_at : Local n (value n S)
  value_at (on_signal w) s u h = any_same n (λ i. drives (S i) (s i) w) (λ i. drives (S i) (u i) w) (λ i l. ap (λ x. drives (S i) x w) (h i l))

  -- the outputs that another component lists fix every level that others read
  pub read_shows : (k : ℕ) → Shows n S k (comparing (read_outputs n S k) (S k))
  read_shows k x y e j l z w r =
      any_same (length (S k).outputs) (λ b. eqb (get_or (S k).outputs b 0) w && has ((S k).out x) b)
      (λ b. eqb (get_or (S k).outputs b 0) w && has ((S k).out y) b) same
    where
      same : (b : ℕ) → b < length (S k).outputs
          → (eqb (get_or (S k).outputs b 0) w && has ((S k).out x) b) ≡ (eqb (get_or (S k).outputs b 0) w && has ((S k).out y) b)
      same b m =
          and_same (eqb (get_or (S k).outputs b 0) w) (has ((S k).out x) b) (has ((S k).out y) b) (λ t.
          (compared_means n S k x y).0 e b m (j, l, z, rw (eqb→eq (get_or (S k).outputs b 0) w t) r))

  -- an instrument, whatever is compared, if it fixes the levels that others read
  pub atoms_fit : (W : ℕ) → WellFormed n S W → (compared : ℕ → ℕ → ℕ) → ((i : ℕ) → i < n → Shows n S i (atoms (compared i) (S i)))
      → Fits n S (value n S) (λ i. atoms (compared i) (S i))
  atoms_fit W good compared shows =
      record {
        sound = λ i l. atoms_sound (compared i) i l (λ j m. good.apart i j l m);
        lawful = λ i l. atoms_lawful (compared i) (S i) (good.total i l);
        local = value_at;
        related = related;
        shows = shows;
        own = good.own;
      }
    where
      related : (a : Atom) (s u : State n S) → ((i : ℕ) → i < n → T ((atoms (compared i) (S i)).related a (s.at i) (u.at i)))
          → value n S a s.at ≡ value n S a u.at
      related (on_signal w) s u r =
          any_same n (λ i. drives (S i) (s.at i) w) (λ i. drives (S i) (u.at i) w)
          (λ i l. level_eq (compared i) (S i) w (s.at i) (u.at i) (r i l))

-- what an instrument's components see fits together, and an atom's value depends on the states alone
module _ (I : Instrument) where
  pub value_local : Local (components I) (value_of I)
  value_local = value_at (components I) (table I)

  pub view_fit : Accepted I → Fits (components I) (table I) (value_of I) (view_of I)
  view_fit accepted =
      atoms_fit (components I) (table I) I.signals accepted.well_formed (λ i x. intersection (seen I i) ((table I i).out x))
      (λ i l. read_shows (components I) (table I) i)

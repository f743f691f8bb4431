-- Names written one component after the other: the loop over the components, the room it needs, and its end as document 01's result.
use mathlib.Core.Path.{◌≡◌, refl, sym, ◌∙◌}
use mathlib.Core.List.{List, []}
use lib.ListN.{length, get_or, take, length-append}
use lib.Seq.{sets, ext_get_or, get_or-take, length-take-le}
use native.Mathlib.Decide.{dec_lt}
use native.Mathlib.Numerals.{add-one}
use native.Mathlib.Omega.{arith}
use Prim.Native.Nat.{ℕ, zero, suc, ◌+◌, ◌≤◌, ◌<◌}
use Rattle.meaning.specs.Instrument.{Instrument, components, table}
use Rattle.meaning.specs.File.Grammar.{Contents, instrument_of}
use Rattle.meaning.specs.Reference.Answers.{list_below, join_below}
use Rattle.meaning.specs.Roots.{classes_at_roots, roots_class_names}
use Rattle.answers.specs.Buffers.{entries, lent_after}
use Rattle.meaning.proofs.Basic.Entries.{list_length, list_at, list_same, join_same}
use Rattle.answers.proofs.Buffers.{lent_sets}
use Rattle.instrument.specs.declared.Instrument as stored
use Rattle.instrument.specs.Described.{Describes}
use Rattle.instrument.proofs.Tables.{table_count, table_states}
use Rattle.marks.proofs.Written.{written_start, written_more, written_end}
use Rattle.partitions.specs.Classes.{classes_of, sum_below, state_sum}
use Rattle.partitions.specs.Progress.{names_in, Writing}
use Rattle.partitions.proofs.Classes.{sum_length, described_name, names_length}

-- the sum of more
sum_more : (n i : ℕ) (f : ℕ → ℕ) → i < n → sum_below i f + f i ≤ sum_below n f
sum_more zero i f l = absurd (omega arith)
sum_more (suc n) i f l =
    elim (dec_lt i n) [
      | yes h ↦ omega (arith, sum_more n i f h)
      | no h ↦ let e : i ≡ n = omega arith in rw e (omega arith)
    ]

-- the first names of a component's row
pub names_taken : (row : List ℕ) (states : ℕ) → states ≤ length row → take states row ≡ names_in row states
names_taken row states h =
    ext_get_or 0 (take states row) (names_in row states) (length-take-le states row h ∙ sym (list_length states (λ x. get_or row x 0)))
    (λ x l. let b : x < states = omega (arith, l, length-take-le states row h) in get_or-take states row x 0 b ∙ sym (list_at states (λ x. get_or row x 0) 0 x b))

module _ (n : ℕ) (states : List ℕ) (names : List (List ℕ)) (out₀ : List ℕ) where
  abbrev part : ℕ → List ℕ
  part i = names_in (get_or names i []) (get_or states i 0)

  abbrev Reached : ℕ → ℕ → List ℕ → Type 0
  Reached i place out = Writing n states names out₀ i place out

  pub writing_start : Reached 0 0 out₀
  writing_start = record { written = written_start out₀ 0 n part; next = refl }

  pub writing_more : (i place : ℕ) (out out' : List ℕ) → i < n → out' ≡ sets out place (part i) → Reached i place out
      → Reached (i + 1) (place + get_or states i 0) out'
  writing_more i place out out' l e w =
      record {
        written = written_more out₀ 0 n part i place out out' l (omega (arith, w.next)) e w.written;
        next =
            rw (add-one i)
            (omega (arith, w.next, length-append (join_below i part) (part i), list_length (get_or states i 0) (λ x. get_or (get_or names i []) x 0)));
      }

  -- the names of component i have room
  pub writing_room : (i place : ℕ) (out : List ℕ) → i < n → sum_below n (λ i. get_or states i 0) ≤ length out₀ → Reached i place out
      → place + get_or states i 0 ≤ length out
  writing_room i place out l r w =
      omega (
        arith,
        r,
        w.next,
        sum_length i (λ i. get_or states i 0) (λ i x. get_or (get_or names i []) x 0),
        sum_more n i (λ i. get_or states i 0) l,
        w.written.long,
      )

  pub writing_end : (i place : ℕ) (out : List ℕ) → n ≡ i → Reached i place out → out ≡ sets out₀ 0 (join_below n part)
  writing_end i place out e w = written_end out₀ 0 n part i out e w.written

module _ (t : stored.Instrument) (k : Contents) (d : Describes t k) (roots : List ℕ) where
  abbrev I : Instrument
  I = instrument_of k

  names_same : (names : List (List ℕ)) → names ≡ classes_of I roots
      → join_below t.components (λ i. names_in (get_or names i []) (get_or t.states i 0)) ≡ roots_class_names I roots
  names_same names e =
      rw (e, ← table_count t k d)
      (join_same (components I) (λ i. names_in (get_or (classes_of I roots) i []) (get_or t.states i 0))
      (λ i. list_below (table I i).states (classes_at_roots I roots i)) (λ i l.
      rw (← table_states t k d i)
      (list_same (table I i).states (λ x. get_or (get_or (classes_of I roots) i []) x 0) (classes_at_roots I roots i) (λ x h. described_name t k d roots i x l h))))

  pub names_written : (names : List (List ℕ)) → names ≡ classes_of I roots → (old : List ℕ) → state_sum t ≤ length old
      → sets old 0 (join_below t.components (λ i. names_in (get_or names i []) (get_or t.states i 0)))
      ≡ lent_after (entries (roots_class_names I roots)) old
  names_written names e old h = rw (names_same names e) (lent_sets (roots_class_names I roots) old (omega (arith, names_length t k d roots)))

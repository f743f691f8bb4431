-- What a reader promises is what the theory needs of an accepted file (specs/File/Promise, specs/Instrument).
use mathlib.Core.Path.{◌∙◌, ◌≡◌, fun_ext, subst, sym}
use mathlib.Core.Logic.{◌≢◌}
use mathlib.Core.List.{List}
use lib.Dec.{T}
use lib.ListN.{get_or-map, get_or, length, length-map}
use native.Mathlib.Decide.{dec_lt}
use native.Mathlib.Nat.{mul-le-mul_right}
use native.Mathlib.Omega.{arith}
use Prim.Native.Nat.{◌*◌, ◌+◌, ◌<◌, ◌^◌, ◌≤◌, suc, ℕ}
use Rattle.meaning.specs.File.Grammar.{Component, Contents, Limits, instrument_of, limits, read_file, table_of}
use Rattle.meaning.specs.File.Parser.{found}
use Rattle.meaning.specs.File.Promise.{Promised, PromisedComponent, component_at, no_component}
use Rattle.meaning.specs.Instrument.{Accepted, WellFormed, components, table}
use Rattle.meaning.specs.Table.{owns}
use Rattle.meaning.specs.Tests.{listed}
use Rattle.meaning.proofs.Basic.Lists.{all_map}
use Rattle.meaning.proofs.File.Members.{all_at, all_member}
use Rattle.meaning.proofs.File.Reads.{file_promised}
use Rattle.meaning.proofs.File.Tables.{from_total}

module _ (c : Contents) where
  -- the instrument's tables are the components', one by one
  pub count_is : components (instrument_of c) ≡ length c.components
  count_is = length-map c.components table_of

  pub table_is : (i : ℕ) → table (instrument_of c) i ≡ table_of (component_at c i)
  table_is i = get_or-map table_of c.components i no_component

  tables_are : table (instrument_of c) ≡ (λ i. table_of (component_at c i))
  tables_are = fun_ext table_is

module _ (L : Limits) (c : Contents) (p : Promised L c) where
  pub promised_at : (i : ℕ) → i < length c.components → PromisedComponent L c.signals (component_at c i)
  promised_at i l = all_at (PromisedComponent L c.signals) c.components p.components no_component i l

  -- the successor word of a state on an assignment
  pub word_at : (t : Component) → PromisedComponent L c.signals t → (x a : ℕ) → x < t.states → a < 2 ^ length t.inputs
      → (get_or t.nexts (2 ^ length t.inputs * x + a) 0 < 2 ^ t.states) × (get_or t.nexts (2 ^ length t.inputs * x + a) 0 ≢ 0)
  word_at t q x a l k =
      let m : suc x * 2 ^ length t.inputs ≤ t.states * 2 ^ length t.inputs = mul-le-mul_right (2 ^ length t.inputs) l in
      let h =
      all_at (λ v. (v ≢ 0) × (v < 2 ^ t.states)) t.nexts q.nexts 0 (2 ^ length t.inputs * x + a) (omega (arith, m, k, q.next_count)) in
      (h.1, h.0)

  well_formed_parts : WellFormed (length c.components) (λ i. table_of (component_at c i)) c.signals
  well_formed_parts =
      record {
        some = λ i l. (promised_at i l).states.0;
        total =
            λ i l. from_total (component_at c i).states (component_at c i).inputs (component_at c i).outputs (component_at c i).outs
            (component_at c i).nexts (word_at (component_at c i) (promised_at i l));
        apart = apart;
        own = λ i l w o q. (promised_at i l).own w o q;
        small = λ i l w o. all_member (λ v. v < c.signals) (component_at c i).inputs (promised_at i l).inputs.below w o;
      }
    where
      apart : (i j : ℕ) → i < length c.components → j < length c.components → j ≢ i → (w : ℕ)
          → T (listed (component_at c i).outputs w) → T (listed (component_at c j).outputs w) → ⊥
      apart i j l k z w o q =
          elim (dec_lt i j) [ yes h ↦ p.apart i j h k w o q | no h ↦ p.apart j i (omega arith) l w q o ]

  pub accepted : Accepted (instrument_of c)
  accepted =
      record {
        well_formed =
            subst (λ n. WellFormed n (table (instrument_of c)) c.signals) (sym (count_is c))
            (subst (λ S. WellFormed (length c.components) S c.signals) (sym (tables_are c)) well_formed_parts);
        earlier = p.earlier;
        rooted = p.node_count.0;
        driven =
            λ k w e. let (i, l, o) = p.named k w e in
            (i, omega (arith, l, count_is c), subst (λ t. T (owns t w)) (sym (table_is c i)) o);
        starts =
            all_map (λ start h. (
              h.0 ∙ sym (count_is c),
              λ i l. subst (λ t. get_or start i 0 < t.states) (sym (table_is c i))
                  (h.1 i (omega (arith, l, count_is c))),
            )) c.starts p.starts;
      }

-- an accepted file is as the theory needs it
pub file_accepted : (file : List ℕ) (c : Contents) (e : ℕ) → read_file file ≡ found c e → Accepted (instrument_of c)
file_accepted file c e q = accepted limits c (file_promised file c e q)

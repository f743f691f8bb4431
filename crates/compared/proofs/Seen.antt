-- The outputs that any component lists as an input are those that another one lists, since none lists its own; so these words are what a
-- component's relation compares (document 02, 3/14).
use mathlib.Core.Path.{◌≡◌, sym, ap, ◌∙◌}
use mathlib.Core.List.{List}
use lib.ListN.{length, get_or}
use native.Mathlib.Nat.{zero-add}
use native.Mathlib.Omega.{arith}
use Prim.Native.Nat.{ℕ, ◌≤◌, ◌<◌}
use Rattle.words.specs.Sets.{built, has, intersection}
use Rattle.words.proofs.Built.{built_same}
use Rattle.meaning.specs.Tests.{any_below}
use Rattle.meaning.specs.Instrument as meaning
use Rattle.meaning.specs.Instrument.{components, table}
use Rattle.meaning.specs.File.Grammar.{Contents, instrument_of, limits, most_states}
use Rattle.meaning.specs.File.Promise.{Promised, PromisedComponent, component_at}
use Rattle.meaning.specs.Seen.{read_elsewhere, seen, view_of}
use Rattle.meaning.specs.Table.{Table}
use Rattle.meaning.proofs.File.Accepted.{accepted, count_is, promised_at, table_is}
use Rattle.meaning.proofs.File.Members.{all_at}
use Rattle.meaning.proofs.Marks.Compared.{read_anywhere}
use Rattle.instrument.specs.declared.Instrument.{Instrument}
use Rattle.instrument.specs.Described.{Describes}
use Rattle.united.specs.Signals.{Signals, Named}
use Rattle.united.specs.Inputs.{reads}
use Rattle.united.proofs.Inputs.{read_word}
use Rattle.classes.specs.Rows.{padded}
use Rattle.classes.proofs.Padded.{padded_at}
use Rattle.compared.specs.Compared.{ReadSignals, compared_words, outputs_in}

-- the words under a mask that was read off the outputs
pub words_under : (states : ℕ) (outputs outs : List ℕ) (read mask : ℕ) → mask ≡ built (length outputs) (λ j. has read (get_or outputs j 0))
    → padded most_states states (λ x. intersection mask (get_or outs x 0)) ≡ compared_words states outputs outs read
unfolding compared_words
words_under states outputs outs read mask e = ap (λ m. padded most_states states (λ x. intersection m (get_or outs x 0))) e

-- signals from the start of a list to its end
pub signals_named : {list : List ℕ} → Signals list 0 (length list) → Named list
signals_named h = record { few = h.few; small = λ j l. rw zero-add at (h.small j l) }

-- the signals that are read off an instrument's arrays are those that its components list
pub signals_read : (t : Instrument) (k : Contents) → Describes t k → (read : ℕ)
    → ((w : ℕ) → has read w ≡ any_below t.components (λ i. reads t.inputs t.inputcounts i w)) → ReadSignals k read
signals_read t k d read h = record { members = read_word t k d read h }

-- the outputs of a component's table are signals that a word holds
pub outputs_signals : (k : Contents) → Promised limits k → (c : ℕ) → c < components (instrument_of k) → (p : Table) → p ≡ table (instrument_of k) c
    → Signals p.outputs 0 (length p.outputs)
outputs_signals k promised c l p e =
    rw (e ∙ table_is k c)
    (record {
      few = omega (arith, own.output_count);
      room = omega arith;
      short = omega (arith, own.output_count);
      small =
          λ j h.
          let b : get_or (component_at k c).outputs j 0 < 32 = omega (arith, all_at (λ v. v < k.signals) (component_at k c).outputs own.outputs.below 0 j h, promised.signal_count) in
          rw (zero-add j) b;
    })
  where
    own : PromisedComponent limits k.signals (component_at k c)
    own = promised_at limits k promised c (omega (arith, count_is k))

module _ {k : Contents} (promised : Promised limits k) {read : ℕ} (signals : ReadSignals k read) (c : ℕ) (l : c < components (instrument_of k)) where
  abbrev I : meaning.Instrument
  I = instrument_of k

  pub outputs_seen : outputs_in (table I c).outputs read ≡ seen I c
  outputs_seen =
      built_same (length (table I c).outputs) (λ b. has read (get_or (table I c).outputs b 0))
      (λ b. read_elsewhere (components I) (table I) c (get_or (table I c).outputs b 0))
      (λ b h. signals.members (get_or (table I c).outputs b 0) ∙ read_anywhere (components I) (table I) c ((accepted limits k promised).well_formed.own c l) b h)

  -- the words, from the lists of the component's table
  pub compared_seen : (p : Table) → p ≡ table I c → (states : ℕ) (outputs outs : List ℕ) → states ≤ most_states → p.outputs ≡ outputs
      → ((x : ℕ) → p.out x ≡ get_or outs x 0) → (x : ℕ) → x < states → get_or (compared_words states outputs outs read) x 0 ≡ (view_of I c).compared x
  unfolding compared_words
  compared_seen p e states outputs outs m q o x h =
      padded_at most_states states (λ x. intersection (outputs_in outputs read) (get_or outs x 0)) x h m
      ∙ (ap (λ w. intersection (outputs_in outputs read) w) (sym (o x) ∙ ap (λ t. t.out x) e)
      ∙ ap (λ w. intersection w ((table I c).out x)) (ap (λ l. outputs_in l read) (sym q ∙ ap (λ t. t.outputs) e) ∙ outputs_seen))

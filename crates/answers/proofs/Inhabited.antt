-- What is said of accepted answers is said of something: each question has one, and each meaning is met, for the pair and the chain of document 01
-- from their bytes; marks beside a partner that no file could hold.
use mathlib.Core.Path.{◌∙◌, ◌≡◌, ap, refl}
use mathlib.Core.Bool.{false}
use mathlib.Core.List.{List, [], ◌∷◌}
use lib.Dec.{lit<}
use lib.ListN.{get_or}
use native.Mathlib.Omega.{arith}
use Prim.Native.Nat.{◌<◌, suc, zero, ℕ}
use Rattle.words.specs.Sets.{built, digit, intersection}
use Rattle.meaning.specs.Cases.{chain_ex, pair}
use Rattle.meaning.specs.Combination.{Truth}
use Rattle.meaning.specs.Seen.{value}
use Rattle.meaning.specs.Instrument.{Instrument, root_formula, table}
use Rattle.meaning.specs.Reference.Answers.{class_names_of, full_count, full_words, mark_words_of, merged_size, merged_words}
use Rattle.answers.specs.Buffers.{entries, fitting, lent_after}
use Rattle.meaning.specs.Verdict.{holds, judged, merged}
use Rattle.meaning.proofs.File.Examples.{accepted_met, chain_accepted, chain_read, chain_contents, chain_i, pair_read, pair_contents, pair_i}
use Rattle.meaning.proofs.Inhabited.{bench, bench_partners, bench_state}
use Rattle.answers.specs.Means.{ClassesMean, FullMeans, Holds, LookupMeans, MarksMean, MergedMeans, VerdictMeans}
use Rattle.answers.specs.Outcomes.{after, class_outcome, full_outcome, given, judgement, looked_up, lookup_of, lookup_reply, mark_outcome, merged_outcome}
use Rattle.answers.specs.Outcomes.{reply_after, verdict_of, verdict_reply, within}
use Rattle.answers.proofs.Means.{class_means, full_means, marks_mean, merged_means}
use Rattle.answers.proofs.Starts.{lookup_means, verdict_means}
use Rattle.answers.proofs.PrintedNumbers.{Bytes}

abbrev pair_file : List ℕ
pair_file = pair (1 ∷ 0 ∷ 0 ∷ [])

-- ---- a file of bytes
pub bytes_met : Bytes pair_file
bytes_met = tt

-- ---- accepted answers
pub full_met : full_outcome pair_file 4 ≡ entries (3 ∷ 0 ∷ 1 ∷ 0 ∷ [])
unfolding full_outcome digit built
full_met = ap (λ g. after g (λ I. within (full_count I) 11 (fitting 4 (full_words I)))) pair_read

pub marks_met : mark_outcome chain_ex 4 ≡ entries (3 ∷ 4 ∷ 1 ∷ 6 ∷ [])
unfolding mark_outcome digit built
marks_met = ap (λ g. after g (λ I. fitting 4 (mark_words_of I))) chain_read

pub classes_met : class_outcome pair_file 4 ≡ entries (0 ∷ 1 ∷ 0 ∷ 1 ∷ [])
unfolding class_outcome digit built intersection
classes_met = ap (λ g. after g (λ I. fitting 4 (class_names_of I))) pair_read

pub merged_met : merged_outcome pair_file 4 ≡ entries (3 ∷ 0 ∷ 1 ∷ 0 ∷ [])
unfolding merged_outcome digit built intersection
merged_met = ap (λ g. after g (λ I. within (merged_size I) 12 (fitting 4 (merged_words I)))) pair_read

pub lookup_met : lookup_reply pair_file (0 ∷ 1 ∷ 0 ∷ 0 ∷ []) ≡ given false
unfolding lookup_reply digit built intersection
lookup_met = ap (λ g. reply_after g (λ I. lookup_of I (0 ∷ 1 ∷ 0 ∷ 0 ∷ []))) pair_read

verdict_is_lem : verdict_of pair_i ≡ judged holds merged
unfolding digit built intersection
verdict_is_lem = refl

pub verdict_met : verdict_reply pair_file ≡ given (record { verdict = holds; stage = merged })
unfolding verdict_reply
verdict_met = ap (λ g. reply_after g (λ I. judgement (verdict_of I))) pair_read ∙ ap judgement verdict_is_lem

-- ---- what they mean
pair_holds : {P : Instrument → Type 0} → P pair_i → Holds P pair_file
pair_holds h = record { contents = pair_contents; end = 29; read = pair_read; fact = h }

chain_holds : {P : Instrument → Type 0} → P chain_i → Holds P chain_ex
chain_holds h = record { contents = chain_contents; end = 19; read = chain_read; fact = h }

pub full_holds : Holds (FullMeans (lent_after (entries (full_words pair_i)) [])) pair_file
full_holds = pair_holds (full_means pair_i accepted_met [])

pub marks_hold : Holds (MarksMean (lent_after (entries (mark_words_of chain_i)) [])) chain_ex
marks_hold = chain_holds (marks_mean chain_i chain_accepted [])

pub classes_hold : Holds (ClassesMean (lent_after (entries (class_names_of pair_i)) [])) pair_file
classes_hold = pair_holds (class_means pair_i accepted_met [])

pub merged_holds : Holds (MergedMeans (lent_after (entries (merged_words pair_i)) [])) pair_file
merged_holds = pair_holds (merged_means pair_i accepted_met [])

pub lookup_holds : Holds (LookupMeans (0 ∷ 0 ∷ 0 ∷ 0 ∷ []) (looked_up pair_i (0 ∷ 0 ∷ 0 ∷ 0 ∷ []))) pair_file
lookup_holds = pair_holds (lookup_means pair_i accepted_met (0 ∷ 0 ∷ 0 ∷ 0 ∷ []) asked)
  where
    asked : (i : ℕ) → i < 2 → get_or (0 ∷ 0 ∷ 0 ∷ 0 ∷ []) i 0 < (table pair_i i).states
    asked zero l = lit< tt
    asked (suc zero) l = lit< tt
    asked (suc (suc i)) l = absurd (omega arith)

pub verdict_holds : Holds (VerdictMeans (record { verdict = holds; stage = merged })) pair_file
verdict_holds = pair_holds (verdict_means pair_i accepted_met (record { verdict = holds; stage = merged }) verdict_is_lem)

-- ---- marks beside a partner: EX p, by the words that are handed back
pub beside_true : Truth 2 bench (value 2 bench) (root_formula chain_i) (bench_state 0 (lit< tt))
unfolding digit built intersection
beside_true =
    ((marks_mean chain_i chain_accepted []).beside 0 1 (lit< tt) (lit< tt) 2 bench 1 (lit< tt) refl bench_partners (bench_state 0 (lit< tt))).0 tt

pub beside_false : Truth 2 bench (value 2 bench) (root_formula chain_i) (bench_state 1 (lit< tt)) → ⊥
unfolding digit built intersection
beside_false =
    ((marks_mean chain_i chain_accepted []).beside 0 1 (lit< tt) (lit< tt) 2 bench 1 (lit< tt) refl bench_partners (bench_state 1 (lit< tt))).1 tt

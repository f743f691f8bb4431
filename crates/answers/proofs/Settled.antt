-- What the first bytes settle (`Limit`): the answer to each question.
use mathlib.Core.Path.{◌∙◌, ◌≡◌, ap}
use mathlib.Core.List.{List}
use lib.ListN.{drop, take}
use lib.Seq.{take-take}
use native.Mathlib.Omega.{arith}
use Prim.Native.Nat.{◌-◌, ℕ}
use Rattle.meaning.specs.File.Promise.{listing_bytes}
use Rattle.meaning.specs.File.Stretches.{end_of, located, start_of}
use Rattle.meaning.specs.Reference.Answers.{full_count, full_words, mark_words_of, class_names_of, merged_size, merged_words}
use Rattle.answers.specs.Buffers.{fitting}
use Rattle.meaning.proofs.File.Limit.{located_end, located_limit}
use Rattle.meaning.proofs.File.Numbers.{drop_take}
use Rattle.answers.specs.Listing.{listed, listing_outcome}
use Rattle.answers.specs.Outcomes.{after, bytes_of, class_outcome, component_bytes_of, full_outcome, judgement, lookup_of, lookup_reply}
use Rattle.answers.specs.Outcomes.{mark_outcome, merged_outcome, reply_after, verdict_of, verdict_reply, within}
use Rattle.answers.proofs.Limit.{settles}

module _ (file : List ℕ) (room : ℕ) where
  pub listing_settled : listing_outcome (take listing_bytes file) room ≡ listing_outcome file room
  unfolding listing_outcome
  listing_settled = settles (λ g. after g (λ I. listed I room (judgement (verdict_of I)))) file

  pub full_settled : full_outcome (take listing_bytes file) room ≡ full_outcome file room
  unfolding full_outcome
  full_settled = settles (λ g. after g (λ I. within (full_count I) 11 (fitting room (full_words I)))) file

  pub marks_settled : mark_outcome (take listing_bytes file) room ≡ mark_outcome file room
  unfolding mark_outcome
  marks_settled = settles (λ g. after g (λ I. fitting room (mark_words_of I))) file

  pub classes_settled : class_outcome (take listing_bytes file) room ≡ class_outcome file room
  unfolding class_outcome
  classes_settled = settles (λ g. after g (λ I. fitting room (class_names_of I))) file

  pub merged_settled : merged_outcome (take listing_bytes file) room ≡ merged_outcome file room
  unfolding merged_outcome
  merged_settled = settles (λ g. after g (λ I. within (merged_size I) 12 (fitting room (merged_words I)))) file

module _ (file : List ℕ) where
  pub lookup_settled : (s : List ℕ) → lookup_reply (take listing_bytes file) s ≡ lookup_reply file s
  unfolding lookup_reply
  lookup_settled s = settles (λ g. reply_after g (λ I. lookup_of I s)) file

  pub verdict_settled : verdict_reply (take listing_bytes file) ≡ verdict_reply file
  unfolding verdict_reply
  verdict_settled = settles (λ g. reply_after g (λ I. judgement (verdict_of I))) file

  -- a component's bytes stand in the first ones
  pub component_settled : (c : ℕ) → component_bytes_of (take listing_bytes file) c ≡ component_bytes_of file c
  component_settled c =
      let a = start_of (located file c) in
      let e = end_of (located file c) in
      ap (λ g. bytes_of (take listing_bytes file) g) (located_limit file c)
      ∙ (ap (λ l. take (e - a) l) (drop_take a listing_bytes file)
      ∙ take-take (e - a) (listing_bytes - a) (drop a file) (omega (arith, located_end file c)))

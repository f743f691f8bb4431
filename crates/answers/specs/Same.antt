-- Two files get the same answer to every question (document 02, 2/14): with every room, for every asked state and component number. Of the stretch
-- query, which hands back the file's own bytes, the number is the same. A later question adds its line.
use Rattle.std.specs.Prelude.{◌≡◌, ◌↔◌, ◌≢◌, List, ℕ}
use Rattle.meaning.specs.File.Parser.{fault}
use Rattle.meaning.specs.File.Stretches.{located}
use Rattle.answers.specs.Outcomes.{full_outcome, mark_outcome, class_outcome, merged_outcome, lookup_reply, verdict_reply}
use Rattle.answers.specs.Listing.{listing_outcome}
use Rattle.answers.specs.Questions.{Question, stretch}
use Rattle.answers.specs.Printed.{printed}

pub record SameAnswers (f g : List ℕ) : Type 0 where
  pub full : (room : ℕ) → full_outcome f room ≡ full_outcome g room
  pub marks : (room : ℕ) → mark_outcome f room ≡ mark_outcome g room
  pub classes : (room : ℕ) → class_outcome f room ≡ class_outcome g room
  pub merged : (room : ℕ) → merged_outcome f room ≡ merged_outcome g room
  pub listing : (room : ℕ) → listing_outcome f room ≡ listing_outcome g room
  pub lookup : (asked : List ℕ) → lookup_reply f asked ≡ lookup_reply g asked
  pub verdict : verdict_reply f ≡ verdict_reply g
  -- what is printed for them
  pub print : (q : Question) → ((c : ℕ) → q ≢ stretch c) → printed q f ≡ printed q g
  -- the stretch query: refused with one number, which is printed, or not refused
  pub number : (c r : ℕ) → (located f c ≡ fault r) ↔ (located g c ≡ fault r)
  pub refusal : (c r : ℕ) → located f c ≡ fault r → printed (stretch c) f ≡ printed (stretch c) g

-- What the listing's text is made from, and how its answer follows the verdict's.
use mathlib.Core.Path.{◌≡◌, refl, subst, ◌∙◌}
use mathlib.Core.List.{List}
use Prim.Native.Nat.{ℕ}
use Rattle.std.specs.Prelude.{Result, Err}
use Rattle.meaning.specs.Instrument.{Instrument, components, table}
use Rattle.meaning.specs.Merged.{merged_count_of}
use Rattle.meaning.specs.File.Grammar.{Contents, instrument_of}
use Rattle.meaning.specs.Reference.Answers.{full_count}
use Rattle.cursor.specs.Answers.{number}
use Rattle.cursor.specs.declared.Refusal.{Refusal}
use Rattle.instrument.specs.declared.Instrument as code
use Rattle.instrument.specs.Described.{Describes}
use Rattle.merging.specs.Contents.{named}
use Rattle.partitions.specs.Classes.{root_classes_of}
use Rattle.root_words.proofs.LastNode.{root_named}
use Rattle.report.specs.Report.{Listed}
use Rattle.answers.specs.Outcomes.{Reply, denied, Judgement}
use Rattle.answers.specs.Listing.{listed}
use Rattle.entry_queries.specs.Written.{Answered}

-- the listing: refused as the verdict is, else its text
pub listed_refused : (I : Instrument) (room : ℕ) (cause : Refusal) (old : List ℕ) → Answered (listed I room (denied (number cause))) (Err cause) old old
listed_refused I room cause old = record { number = refl; count = refl; buffer = refl }

pub listed_same : (I : Instrument) (room : ℕ) {i j : Reply Judgement} {r : Result ℕ Refusal} {old new : List ℕ} → i ≡ j → Answered (listed I room i) r old new
    → Answered (listed I room j) r old new
listed_same I room {i} {j} {r} {old} {new} e a = subst (λ j. Answered (listed I room j) r old new) e a

-- what the text is made from
pub lines_listed : (t : code.Instrument) (k : Contents) → Describes t k → (names : List (List ℕ)) (m f : ℕ) → names ≡ root_classes_of (instrument_of k)
    → m ≡ merged_count_of (components (instrument_of k)) (table (instrument_of k)) (named names) → f ≡ full_count (instrument_of k) → Listed t names m f k
lines_listed t k d names m f e p q = record { describes = d; named = e; merged_is = p ∙ root_named t k d names e; full_is = q }

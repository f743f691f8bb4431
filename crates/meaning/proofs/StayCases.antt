-- The cases of 2/14 hold: each row's test is computed, and means what the row says.
use Rattle.words.specs.Sets.{built, digit, insert, intersection}
use Rattle.meaning.specs.Cases.{CaseHolds}
use Rattle.meaning.specs.StayCases.{stay_cases}
use Rattle.meaning.specs.File.Grammar.{between, component, less_than, named, node, read_file, signal, whole, with_all}
use Rattle.meaning.specs.File.Number.{groups}
use Rattle.meaning.specs.File.Parser.{list_of}
use Rattle.meaning.specs.Tests.{All}
use Rattle.meaning.proofs.Basic.Lists.{all_sound}
use Rattle.meaning.proofs.Cases.{case_b, reads_means}

pub stays : All CaseHolds stay_cases
unfolding digit built insert intersection with_all groups list_of between less_than signal component named node whole
stays = all_sound CaseHolds case_b (λ r. reads_means (read_file r.file) r.fact) stay_cases tt

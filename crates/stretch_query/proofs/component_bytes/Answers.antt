use Rattle.std.proofs.Common.{◌≡◌, refl, ap₂, arith, ℕ, List, [], ◌-◌, take, drop, Err}
use Rattle.std.specs.declared.ops.Range.{Range}
use Rattle.meaning.specs.File.Parser.{Got, found, fault}
use Rattle.meaning.specs.File.Stretches.{Stretch, located}
use Rattle.cursor.specs.declared.Refusal.{Refusal}
use Rattle.answers.specs.Outcomes.{bytes_of}
use Rattle.reader.specs.Outcomes.{Tells}
use Rattle.meaning.proofs.File.Ended.{inside}
use Rattle.answers.proofs.Parts.{part_means, part_some}
use Rattle.stretch_query.proofs.component_bytes.Goals as goal

pub slice_bounds-result-count : goal.slice_bounds-result-count
slice_bounds-result-count c =
    let p = c.in-Ok.ensures.places in
    omega (arith, p.start_is, p.end_is, (inside c.args.file.now c.args.component).0)

pub slice_bounds-result-start : goal.slice_bounds-result-start
slice_bounds-result-start c =
    let p = c.in-Ok.ensures.places in
    omega (arith, p.start_is, p.end_is, (inside c.args.file.now c.args.component).0, (inside c.args.file.now c.args.component).1)

pub slice_bounds-result-end : goal.slice_bounds-result-end
slice_bounds-result-end c =
    let p = c.in-Ok.ensures.places in
    omega (arith, p.start_is, p.end_is, (inside c.args.file.now c.args.component).0, (inside c.args.file.now c.args.component).1)

-- a refused question has no bytes
none : (file : List ℕ) (r : Refusal) (g : Got Stretch) → Tells {A = Range ℕ} (Err r) g → [] ≡ bytes_of file g
none file r (found s at) h = absurd h
none file r (fault n) h = refl

pub returns-in-Ok-clause-meaning : goal.returns-in-Ok-clause-meaning
returns-in-Ok-clause-meaning c =
    let p = c.in-Ok.ensures.places in
    part_means c.args.file.now c.args.component _ (ap₂ (λ a e. take (e - a) (drop a c.args.file.now)) p.start_is p.end_is)

pub returns-in-Ok-clause-answered : goal.returns-in-Ok-clause-answered
returns-in-Ok-clause-answered c =
    let p = c.in-Ok.ensures.places in
    part_some c.args.file.now c.args.component _ (ap₂ (λ a e. take (e - a) (drop a c.args.file.now)) p.start_is p.end_is)

pub returns-in-Err-clause-answered : goal.returns-in-Err-clause-answered
returns-in-Err-clause-answered c =
    part_some c.args.file.now c.args.component _ (none c.args.file.now _ (located c.args.file.now c.args.component) c.in-Err.ensures.told)

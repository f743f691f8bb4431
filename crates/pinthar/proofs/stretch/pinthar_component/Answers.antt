use Rattle.std.proofs.Common.{ap₂, ◌∙◌, arith, Ok, Err, ℕ, ◌+◌, ◌-◌, ◌*◌, ◌^◌}
use Rattle.std.specs.declared.ops.Range.{Range}
use Rattle.meaning.specs.File.Stretches.{located}
use Rattle.meaning.proofs.File.Ended.{inside, short}
use Rattle.reader.proofs.Places.{told_number}
use Rattle.pinthar.proofs.Codes.{code_answered, code_refused, component_taken, component_both}
use Rattle.pinthar.proofs.stretch.pinthar_component.Goals as goal

pub overflow_sub-result : goal.overflow_sub-result
overflow_sub-result c =
    let l = c.in-Ok.ensures.places in
    omega (arith, l.start_is, l.end_is, (inside c.args.file.now c.args.component).0)

pub overflow_mul-result : goal.overflow_mul-result
overflow_mul-result c =
    let l = c.in-Ok.ensures.places in
    omega (arith, l.start_is, (inside c.args.file.now c.args.component).0, short c.args.file.now c.args.component)

pub overflow_add-result : goal.overflow_add-result
overflow_add-result c =
    let l = c.in-Ok.ensures.places in
    omega (arith, l.start_is, l.end_is, (inside c.args.file.now c.args.component).0, short c.args.file.now c.args.component)

pub returns-in-Ok : goal.returns-in-Ok
returns-in-Ok c =
    let l = c.in-Ok.ensures in
    let g = located c.args.file.now c.args.component in
    let e = ap₂ (λ s e. s * 2 ^ 16 + (e - s)) l.places.start_is l.places.end_is ∙ code_answered g (told_number {A = Range ℕ} (Ok c.in-Ok.place) g l.told) in
    let both = component_both c.args.file.now c.args.component _ (Ok c.in-Ok.place) l.told e in
    record { answer = e; bytes = component_taken c.args.file.now c.args.component _ e; meaning = both.0; answered = both.1 }

pub returns-in-Err : goal.returns-in-Err
returns-in-Err c =
    let l = c.in-Err.ensures in
    let g = located c.args.file.now c.args.component in
    let e = c.of_refusal.ensures ∙ code_refused g c.in-Err.cause (told_number {A = Range ℕ} (Err c.in-Err.cause) g l.told) in
    let both = component_both c.args.file.now c.args.component _ (Err c.in-Err.cause) l.told e in
    record { answer = e; bytes = component_taken c.args.file.now c.args.component _ e; meaning = both.0; answered = both.1 }

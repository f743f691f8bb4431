use Rattle.std.proofs.Common.{sym, ◌∙◌, arith, get_or, ◌%◌}
use Rattle.cursor.proofs.Numbers.{at_end, last_high, last_low, ends}
use Rattle.cursor.proofs.Carried.{whole, last_room, weight_room, room, next}
use Rattle.cursor.proofs.Cursor.groups.Goals as goal

-- The groups read so far are carried over those that follow (proofs/Carried).

pub returns-then-b-gt-LAST_GROUP-clause-answer : goal.returns-then-b-gt-LAST_GROUP-clause-answer
returns-then-b-gt-LAST_GROUP-clause-answer c =
    let l = c.loop-place in
    sym (whole _ _ _ l.invariant _ (last_high c.args.self.file.now l.place (omega arith) l.left (omega arith) (omega arith)))

pub highest-requires : goal.highest-requires
highest-requires c =
    let l = c.loop-place in
    last_room _ _ _ l.invariant (get_or c.args.self.file.now l.place 0) (omega arith) (omega arith)

pub returns-then-left-eq0-clause-answer : goal.returns-then-left-eq0-clause-answer
returns-then-left-eq0-clause-answer c =
    let l = c.loop-place in
    c.highest.ensures.answer
    ∙ sym (whole _ _ _ l.invariant _ (last_low c.args.self.file.now l.place (omega arith) l.left (omega arith) (omega arith)))

pub highest-requires-then-b-lt128 : goal.highest-requires-then-b-lt128
highest-requires-then-b-lt128 c =
    let l = c.loop-place in
    omega (arith, room _ _ _ l.invariant (get_or c.args.self.file.now l.place 0) (omega arith) (omega arith) (omega arith))

pub returns-then-b-lt128-clause-answer : goal.returns-then-b-lt128-clause-answer
returns-then-b-lt128-clause-answer c =
    let l = c.loop-place in
    c.highest-then-b-lt128.ensures.answer
    ∙ sym (whole _ _ _ l.invariant _ (ends c.args.self.file.now l.place (omega arith) l.left (omega arith) (omega arith)))

pub overflow_mul-value : goal.overflow_mul-value
overflow_mul-value c =
    let l = c.loop-place in
    omega (arith, room _ _ _ l.invariant (get_or c.args.self.file.now l.place 0 % 128) (omega arith) (omega arith) (omega arith))

pub overflow_add-value : goal.overflow_add-value
overflow_add-value c =
    let l = c.loop-place in
    omega (arith, room _ _ _ l.invariant (get_or c.args.self.file.now l.place 0 % 128) (omega arith) (omega arith) (omega arith))

pub overflow_mul-weight : goal.overflow_mul-weight
overflow_mul-weight c = omega (arith, weight_room _ _ _ c.loop-place.invariant (omega arith) (omega arith))

pub loop-place-preserved : goal.loop-place-preserved
loop-place-preserved c = next _ _ _ c.loop-place.invariant (omega arith) (omega arith) (omega arith)

pub returns-clause-answer : goal.returns-clause-answer
returns-clause-answer c =
    let l = c.loop-place in
    sym (whole _ _ _ l.invariant _ (at_end l.left c.args.self.file.now l.place (omega arith)))

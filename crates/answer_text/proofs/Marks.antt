-- How many words the marks of an instrument are.
use native.Mathlib.Omega.{arith}
use Prim.Native.Nat.{◌*◌, ◌≤◌}
use Rattle.std.proofs.Common.{mul-le-mul}
use Rattle.meaning.specs.File.Grammar.{Contents}
use Rattle.instrument.specs.declared.Instrument.{Instrument}
use Rattle.instrument.specs.Described.{Describes}
use Rattle.instrument.proofs.Bounds.{count_bounds, node_bounds}

pub few_marks : (t : Instrument) (k : Contents) → Describes t k → 2 * t.components * t.nodecount ≤ 192
few_marks t k d =
    let two : 2 * t.components ≤ 8 = omega (arith, (count_bounds t k d).1) in
    mul-le-mul two (node_bounds t k d).1

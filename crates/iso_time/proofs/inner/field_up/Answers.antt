-- The bias is above the bound, so that a raised field is a natural.
use Rattle.std.proofs.Common.{arith, sym, ◌∙◌}
use Prim.Native.Nat.{◌^◌}
use mir.Facts.{to_z-of_z}
use Rattle.whole.proofs.Laws.{ints, size_of, range_of, read_diff}
use Rattle.iso_time.specs.Inner.{field_bias}
use Rattle.iso_time.proofs.inner.field_up.Goals as goal

pub raise-requires : goal.raise-requires
raise-requires c =
    let x = c.args.x in
    let b = size_of x in
    let r = range_of x in
    (omega arith, (omega (arith, ints, read_diff 0 field_bias), omega (arith, ints, read_diff (2 ^ 63) field_bias)))

pub returns : goal.returns
returns c =
    let x = c.args.x in
    let b = size_of x in
    let r = range_of x in
    let e = sym (to_z-of_z c.ranges.x) ∙ c.raise.ensures.0 in
    (e, omega (arith, ints, read_diff c.raise.result field_bias))

-- Past the balanced range 4, within it the date of the day.
use Rattle.std.proofs.Common.{◌∙◌, ap, sym, arith}
use mir.Facts.{to_z-of_z}
use Prim.Native.Nat.{◌^◌}
use Rattle.whole.proofs.Laws.{ints, read_diff}
use Rattle.iso_date.specs.Inner.{day_bias}
use Rattle.iso_date.specs.Proposal.{epoch_days_to_iso_date}
use Rattle.iso_date.proofs.Answers.{read_balanced, date_far, date_given}
use Rattle.iso_date.proofs.IsoDate.from_epoch_days.Goals as goal

pub returns-then-not-is_balanced : goal.returns-then-not-is_balanced
returns-then-not-is_balanced c = date_far _ (rw (to_z-of_z c.ranges.day) at (sym c.is_balanced.ensures ∙ c.if-not-is_balanced.true))

pub raise-requires : goal.raise-requires
raise-requires c =
    let r = read_balanced _ (rw (to_z-of_z c.ranges.day) at (sym c.is_balanced.ensures ∙ c.if-not-is_balanced.false)) in
    rw (to_z-of_z c.ranges.day) (omega arith, (omega (arith, ints, r, read_diff 0 day_bias), omega (arith, ints, r, read_diff (2 ^ 63) day_bias)))

pub civil-requires : goal.civil-requires
civil-requires c =
    let r = read_balanced _ (rw (to_z-of_z c.ranges.day) at (sym c.is_balanced.ensures ∙ c.if-not-is_balanced.false)) in
    let is = sym (to_z-of_z c.ranges.day) ∙ c.raise.ensures.0 in
    omega (arith, ints, r, is, read_diff c.raise.result day_bias)

pub returns : goal.returns
returns c =
    let near = rw (to_z-of_z c.ranges.day) at (sym c.is_balanced.ensures ∙ c.if-not-is_balanced.false) in
    date_given _ _ near (c.civil.ensures ∙ ap epoch_days_to_iso_date (sym c.raise.ensures.0 ∙ to_z-of_z c.ranges.day))

-- Rounded by the size, below zero with the mirrored rule.
use Rattle.std.proofs.Common.{◌∙◌, ◌<ℤ◌, ◌≤ℤ◌, pos, arith}
use Rattle.whole.proofs.Laws.{ints}
use mir.Facts.{to_z-of_z}
use Rattle.rounding.proofs.Rounds.{round_above_as_if, round_below_as_if}
use Rattle.rounding.proofs.round_as_if_positive.Goals as goal

pub returns-then-number-lt0 : goal.returns-then-number-lt0
returns-then-number-lt0 c =
    let below : c.args.number <ℤ pos 0 = omega (arith, ints) in
    (rw (to_z-of_z c.ranges.number, c.mirrored.ensures, c.get_unsigned_round_mode-rule.ensures) at c.round_by_size.ensures) ∙
    round_below_as_if c.args.number c.args.step c.args.mode below

pub returns-else-number-lt0 : goal.returns-else-number-lt0
returns-else-number-lt0 c =
    let above : pos 0 ≤ℤ c.args.number = omega (arith, ints) in
    (rw (to_z-of_z c.ranges.number, c.get_unsigned_round_mode-rule.ensures) at c.round_by_size-else-number-lt0.ensures) ∙
    round_above_as_if c.args.number c.args.step c.args.mode above
